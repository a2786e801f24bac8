use Rattle.lv_compile.proofs.WindowDecoding.{window_decoded}
use Rattle.lv_compile.proofs.laws.satisfying_is_a_window.Goals as goal

pub returns : goal.returns
returns c = λ plant h steps truth all. window_decoded truth plant h steps all
