use Rattle.lv_compile.proofs.LengthLemmas.{formula_bounded}
use Rattle.lv_compile.proofs.laws.formula_count_bounds.Goals as goal

pub returns : goal.returns
returns c = λ ranges b base sizes few f h sign has. formula_bounded ranges b base sizes few f h sign has
