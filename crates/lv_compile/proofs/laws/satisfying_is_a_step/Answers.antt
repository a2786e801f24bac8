use Rattle.lv_compile.proofs.DecodeLemmas.{decoded}
use Rattle.lv_compile.proofs.laws.satisfying_is_a_step.Goals as goal

pub returns : goal.returns
returns c = λ plant h truth all. decoded truth plant h all
