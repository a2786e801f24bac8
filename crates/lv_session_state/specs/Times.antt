-- The times that a session keeps, and what is observed of each.
use Rattle.std.specs.Prelude.{ℕ, ◌+◌, ◌-◌, Bool, ◌&&◌, nat_eq, nat_le, List, length, filter, if◌then◌else◌}
use Rattle.std.specs.List.{list_any}
use Rattle.lv_reply.specs.declared.reply.Refusal.TheVariants.{NameNotHeld, OutOfLimits}
use Rattle.lv_reply.specs.declared.reply.Reply.TheVariants.{Refused}
use Rattle.lv_session_request.specs.Held.{has_name, lacks_name}
use Rattle.lv_session_request.specs.declared.request.Retraction.{Retraction}
use Rattle.lv_session_history.specs.History.{is_held_in, without_in}
use Rattle.lv_session_state.specs.State.{SessionState, Stepped, cleared, unchanged}

-- the time of the oldest commit that is kept
abbrev pub first_time : SessionState → ℕ
first_time state = state.time - length state.history

-- a time is kept from the oldest commit's to the next
abbrev pub is_kept : SessionState → ℕ → Bool
is_kept state time = nat_le (first_time state) time && nat_le time (state.time + 1)

-- an observation of this name is held of the time
abbrev pub is_held_of : SessionState → ℕ → List ℕ → Bool
is_held_of state time name =
    if nat_eq time (state.time + 1) then list_any (has_name name) state.next
    else (if nat_eq time state.time then list_any (has_name name) state.present
    else is_held_in state.history (time - first_time state) name)

-- the state without it
abbrev pub without_of : SessionState → ℕ → List ℕ → SessionState
without_of state time name =
    if nat_eq time (state.time + 1) then record state { next = filter (lacks_name name) state.next }
    else (if nat_eq time state.time then record state { present = filter (lacks_name name) state.present }
    else record state { history = without_in state.history (time - first_time state) name })

-- `retract NAME at S`: what is held of other times stays, and so does what was tracked
abbrev pub retract_at : SessionState → Retraction → Stepped
retract_at state r =
    if is_kept state r.time
    then (if is_held_of state r.time r.name then cleared (without_of state r.time r.name) else unchanged state (Refused NameNotHeld))
    else unchanged state (Refused OutOfLimits)
