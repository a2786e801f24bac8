-- Without the flag a window of one step replies as a diagnosis does.
use Rattle.std.proofs.Common.{◌≡◌, ◌+◌, Bool, true, false, cond, length, refl, ◌∙◌, ap, arith}
use Rattle.std.proofs.lemmas.Bool.{le-leb}
use Rattle.lv_model.specs.declared.plant.Plant.{Plant}
use Rattle.lv_boxes.specs.declared.outcome.Outcome.{Outcome}
use Rattle.lv_boxes.specs.declared.outcome.Outcome.TheVariants.{Settled, Unsettled}
use Rattle.lv_boxes.specs.Walk.{Walked}
use Rattle.lv_reply.specs.declared.reply.Refusal.TheVariants.{OutOfLimits}
use Rattle.lv_reply.specs.declared.reply.Reply.TheVariants.{Refused}
use Rattle.lv_reply.specs.Texts.{reply_text}
use Rattle.lv_session_state.specs.lv_session_history.History.{has_steps}
use Rattle.lv_session_state.specs.State.{SessionState, unchanged, tracing, traced, diagnosed, look_back, reply_by, diagnosis_reply, window_reply_by}
use Rattle.lv_session_state.proofs.WindowReadings.{one_step_walk}

-- what comes to the same has one text
same_text : (plant : Plant) (o : Outcome) (w : Walked) → reply_text plant (window_reply_by o 1 w) ≡ reply_text plant (reply_by o w)
same_text plant Settled w = refl
same_text plant Unsettled w = refl

pub reads_as_a_diagnosis : (plant : Plant) (state : SessionState) → state.distinct ≡ false
    → reply_text plant (look_back plant state 1).reply ≡ reply_text plant (diagnosed plant state state.budget).reply
reads_as_a_diagnosis plant state repeats =
    let some : has_steps state.history 1 ≡ true = le-leb 1 (length state.history + 1) (omega arith) in
    ap (λ (b : Bool). reply_text plant (cond b (traced plant state 1 state.budget) (unchanged state (Refused OutOfLimits))).reply) some
    ∙ same_text plant (tracing plant state 1 state.budget).outcome (tracing plant state 1 state.budget)
    ∙ ap (λ (w : Walked). reply_text plant (diagnosis_reply w)) (one_step_walk plant state state.budget repeats)
