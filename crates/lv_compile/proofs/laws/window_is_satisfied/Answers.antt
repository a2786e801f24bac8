use Rattle.lv_compile.proofs.WindowDecoding.{window_satisfied}
use Rattle.lv_compile.proofs.laws.window_is_satisfied.Goals as goal

pub returns : goal.returns
returns c = λ plant h truth start on feasible lead now code. window_satisfied truth plant h start on feasible lead now code
