use Rattle.lv_session.proofs.Keeping.{start_kept}
use Rattle.lv_session.proofs.Steps.{step_kept}
use Rattle.lv_session.proofs.laws.states_stay_states.Goals as goal

pub returns : goal.returns
returns c = record { start = start_kept; step = step_kept }
