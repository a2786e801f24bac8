use Rattle.lv_session_state.proofs.WindowReadings.{window_settled, one_step_walk}
use Rattle.lv_session_state.proofs.laws.window_walk_is_exact.Goals as goal

pub returns : goal.returns
returns c = record { exact = window_settled; one_step = one_step_walk }
