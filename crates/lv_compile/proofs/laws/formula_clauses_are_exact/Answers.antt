use Rattle.lv_compile.proofs.FormulaLemmas.{exact}
use Rattle.lv_compile.proofs.laws.formula_clauses_are_exact.Goals as goal

pub returns : goal.returns
returns c = λ ranges b base have truth a code f h sign. exact ranges b base have truth a code f h sign
