-- by the law of the grammar
use Rattle.lv_formula_text.proofs.GrammarLemmas.{formula_one}
use Rattle.lv_formula_text.proofs.laws.formula_is_one.Goals as goal

pub returns : goal.returns
returns c = formula_one
