use Rattle.lv_compile.proofs.ApartLemmas.{are_clauses}
use Rattle.lv_compile.proofs.laws.model_clauses_are_clauses.Goals as goal

pub returns : goal.returns
returns c = λ plant h. are_clauses plant h
