use Rattle.lv_compile.proofs.StepLemmas.{step_exact}
use Rattle.lv_compile.proofs.laws.model_clauses_are_exact.Goals as goal

pub returns : goal.returns
returns c = λ plant h truth a b ms now next choice. step_exact plant h truth a b now next ms choice
