-- The values that the current recovery of a session gives the controls; what a request does without a line.
use Rattle.std.specs.Prelude.{ℕ, List, if◌then◌else◌, Option, None}
use Rattle.lv_model.specs.declared.plant.Plant.{Plant}
use Rattle.lv_reply.specs.declared.reply.Reply.TheVariants.{Nothing as Silence}
use Rattle.lv_session_state.specs.lv_session_request.declared.request.Request.{Request}
use Rattle.lv_session_state.specs.State.{SessionState, Stepped, unchanged}
use Rattle.lv_session.specs.Session.{RunningSession, carried_out}
use Rattle.lv_session_state.specs.Applying.{recovery_values}

-- of a session; once memory was wanting nothing is known of the query
abbrev pub recovery_at : RunningSession → Option (List ℕ)
recovery_at s = if s.is_out_of_memory then None else recovery_values s.state.query s.plant s.state

-- what a request does, and the reply to it; in an ended session it does nothing
abbrev pub performed : Plant → SessionState → Request → Stepped
performed plant state request = if state.is_ended then unchanged state Silence else carried_out plant state request
