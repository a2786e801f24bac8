use Rattle.lv_compile.proofs.WindowLemmas.{window_are}
use Rattle.lv_compile.proofs.laws.window_clauses_are_clauses.Goals as goal

pub returns : goal.returns
returns c = λ plant h steps. window_are plant h steps
