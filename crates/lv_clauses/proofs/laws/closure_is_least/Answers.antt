-- by induction on how a literal came into the closure
use Rattle.lv_clauses.proofs.ClosureLemmas.{least}
use Rattle.lv_clauses.proofs.laws.closure_is_least.Goals as goal

pub returns : goal.returns
returns c = λ clauses assumed has closed l h. least has closed l h
