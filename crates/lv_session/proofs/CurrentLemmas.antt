-- What is kept of the current query stays that of the state, whatever is asked for.
use Rattle.std.proofs.Common.{◌≡◌, ℕ, ◌+◌, Bool, true, false, cond, nat_eq, nat_le, ◌-◌, slice_get, Option, None, Some, List, [], ◌∷◌, ◌++◌, length, map, filter, Result, Ok, Err, IfOk, OnOk, sym, ◌∙◌, ap, subst, refl}
use Rattle.std.specs.Option.{option_map_or}
use Rattle.lv_base.specs.declared.limits.TheConstants.{COMMITS}
use Rattle.lv_base.specs.declared.ids.VarId.{VarId}
use Rattle.lv_base.specs.declared.rank.Rank.{Rank}
use Rattle.lv_model.specs.declared.plant.Plant.{Plant}
use Rattle.lv_model.specs.declared.state.TrackedState.{TrackedState}
use Rattle.lv_boxes.specs.declared.outcome.Outcome.{Outcome}
use Rattle.lv_boxes.specs.declared.outcome.Outcome.TheVariants.{Settled, Unsettled}
use Rattle.lv_session_state.specs.lv_tracker.Tracked.{advanced}
use Rattle.lv_reply.specs.declared.reply.Refusal.TheVariants.{NameHeld, NameNotHeld, OutOfLimits, NoQuery, NothingListed, TooManyHeld, TooManyCommits}
use Rattle.lv_reply.specs.declared.reply.Reply.{Reply}
use Rattle.lv_reply.specs.declared.reply.Reply.TheVariants.{Refused, Committed, Certificate as Certified}
use Rattle.lv_session_state.specs.lv_session_request.declared.goals.Goal.{Goal}
use Rattle.lv_session_state.specs.lv_session_request.declared.request.Sighting.{Sighting}
use Rattle.lv_session_state.specs.lv_session_request.declared.request.Request.{Request}
use Rattle.lv_session_state.specs.lv_session_request.declared.request.Retraction.{Retraction}
use Rattle.lv_session_state.specs.Times.{is_kept, is_held_of, without_of, retract_at}
use Rattle.lv_session_state.specs.lv_session_request.declared.request.Request.TheVariants.{Nothing, Track, TrackDistinct, SetBudget, SetControl, Release, Observe, Retract, RetractAt, SetGoal, DropGoal, Diagnose, Recover, More, Commit, Conflicts, Certificate, Labels, LabelsFrom, States, Reset, Quit, Probe, Test as ToTest, Window as ToWindow}
use Rattle.lv_session_state.specs.declared.query.Query.{Query}
use Rattle.lv_session_state.specs.declared.query.Query.TheVariants.{Absent, Diagnosis, Recovery, Test, Window}
use Rattle.lv_session_state.specs.declared.running.Running.{Running}
use Rattle.lv_session_state.specs.declared.running.Running.TheVariants as kept
use Rattle.lv_session_state.specs.lv_session_request.Held.{lacks_name}
use Rattle.lv_session_state.specs.State.{SessionState, Stepped, unchanged, cleared, walked, recovery, is_held, has_no_room, observe, retract, is_goal, has_no_goal_room, lacks_goal_name, set_goal, drop_goal, commit, commit_by, testing, tracing, last_step, conflicts, taken_over, advanced_to}
use Rattle.lv_session.specs.Session.{labelled, labelled_from, is_certifiable, certificate, probed_reply, probe_by, probe, carried_out}
use Rattle.lv_session_state.specs.Current.{IsKeptOf, IsCurrent, KeepsSolverOf, IsWorking}
use Rattle.lv_session.specs.Kept.{IsCaredFor}

same_walk : (plant : Plant) (state : SessionState) (budget : ℕ) (ended : Bool) (sum : ℕ) → walked plant (record state { budget = budget; is_ended = ended }) sum ≡ walked plant state sum
unfolding walked
same_walk plant state budget ended sum = refl

same_recovery : (plant : Plant) (state : SessionState) (budget : ℕ) (ended : Bool) (sum : ℕ) → recovery plant (record state { budget = budget; is_ended = ended }) sum ≡ recovery plant state sum
unfolding recovery
same_recovery plant state budget ended sum = refl

same_test : (plant : Plant) (state : SessionState) (budget : ℕ) (ended : Bool) (x : VarId) (sum : ℕ) → testing plant (record state { budget = budget; is_ended = ended }) x sum ≡ testing plant state x sum
unfolding testing
same_test plant state budget ended x sum = refl

same_window : (plant : Plant) (state : SessionState) (budget : ℕ) (ended : Bool) (steps sum : ℕ) → tracing plant (record state { budget = budget; is_ended = ended }) steps sum ≡ tracing plant state steps sum
unfolding tracing
same_window plant state budget ended steps sum = refl

module _ (plant : Plant) (state : SessionState) (running : Running) (is : IsCurrent plant state running) where
  -- the budget and whether the session has ended are no part of a query
  pub others_kept : (budget : ℕ) (ended : Bool) → IsCurrent plant (record state { budget = budget; is_ended = ended }) running
  others_kept budget ended = by state.query running is
    where
      by : (q : Query) (r : Running) → IsKeptOf q plant state r → IsKeptOf q plant (record state { budget = budget; is_ended = ended }) r
      by Absent r h = tt
      by (Diagnosis sum) (kept.Diagnosis d) h = record { on = h.on; came_to = same_walk plant state budget ended sum ∙ h.came_to }
      by (Recovery sum) (kept.Recovery r) h = record { on = h.on; came_to = same_recovery plant state budget ended sum ∙ h.came_to }
      by (Test x sum) (kept.Test t) h = record { on = h.on; came_to = same_test plant state budget ended x sum ∙ h.came_to }
      by (Window steps sum) (kept.Window w) h = record { on = h.on; came_to = same_window plant state budget ended steps sum ∙ h.came_to }
      by q r h = absurd h

  observe_current : (s : Sighting) → IsCurrent plant (observe state s).state running
  observe_current s = by (is_held state s.name) (has_no_room state s.name)
    where
      by : (a b : Bool)
          → IsCurrent plant (cond a (unchanged state (Refused NameHeld)) (cond b (unchanged state (Refused TooManyHeld)) (cleared (record state { next = state.next ++ (s ∷ []) })))).state running
      by true b = is
      by false true = is
      by false false = tt

  retract_current : (name : List ℕ) → IsCurrent plant (retract state name).state running
  retract_current name = by (is_held state name)
    where
      by : (b : Bool)
          → IsCurrent plant (cond b (cleared (record state { present = filter (lacks_name name) state.present; next = filter (lacks_name name) state.next })) (unchanged state (Refused NameNotHeld))).state running
      by true = tt
      by false = is

  retract_at_current : (r : Retraction) → IsCurrent plant (retract_at state r).state running
  retract_at_current r = by (is_kept state r.time) (is_held_of state r.time r.name)
    where
      by : (a b : Bool) → IsCurrent plant (cond a (cond b (cleared (without_of state r.time r.name)) (unchanged state (Refused NameNotHeld))) (unchanged state (Refused OutOfLimits))).state running
      by true true = tt
      by true false = is
      by false b = is

  set_goal_current : (g : Goal) → IsCurrent plant (set_goal state g).state running
  set_goal_current g = by (is_goal state g.name) (has_no_goal_room state g.name)
    where
      by : (a b : Bool)
          → IsCurrent plant (cond a (unchanged state (Refused NameHeld)) (cond b (unchanged state (Refused TooManyHeld)) (cleared (record state { goals = state.goals ++ (g ∷ []) })))).state running
      by true b = is
      by false true = is
      by false false = tt

  drop_goal_current : (name : List ℕ) → IsCurrent plant (drop_goal state name).state running
  drop_goal_current name = by (is_goal state name)
    where
      by : (b : Bool) → IsCurrent plant (cond b (cleared (record state { goals = filter (lacks_goal_name name) state.goals })) (unchanged state (Refused NameNotHeld))).state running
      by true = tt
      by false = is

  labelled_current : (n : ℕ) → IsCurrent plant (labelled_from plant state n).state running
  labelled_current n = by (slice_get state.tracked (n - 1))
    where
      by : (o : Option TrackedState) → IsCurrent plant (option_map_or (λ (s : TrackedState). labelled plant state (Some s.state)) o (unchanged state (Refused OutOfLimits))).state running
      by None = is
      by (Some s) = is

  taken_current : (listed : List Rank) → IsCurrent plant (taken_over plant state listed).state running
  taken_current listed = by (nat_eq (length listed) 0) (nat_le COMMITS state.time)
    where
      by : (a b : Bool)
          → IsCurrent plant (cond a (unchanged state (Refused NothingListed)) (cond b (unchanged state (Refused TooManyCommits))
          (record { state = advanced_to plant state listed; reply = Committed (state.time + 1) (length (advanced plant listed)) }))).state running
      by true b = is
      by false true = is
      by false false = tt

  commit_current : (q : Query) → IsCurrent plant (commit q plant state).state running
  commit_current Absent = is
  commit_current (Diagnosis sum) = by (walked plant state sum).outcome
    where
      by : (o : Outcome) → IsCurrent plant (commit_by o plant state (walked plant state sum).listed).state running
      by Settled = taken_current (walked plant state sum).listed
      by Unsettled = is
  commit_current (Recovery sum) = is
  commit_current (Test x sum) = is
  commit_current (Window steps sum) = by (tracing plant state steps sum).outcome
    where
      by : (o : Outcome) → IsCurrent plant (commit_by o plant state (map (last_step plant) (tracing plant state steps sum).listed)).state running
      by Settled = taken_current (map (last_step plant) (tracing plant state steps sum).listed)
      by Unsettled = is

  probe_current : (q : Query) → IsCurrent plant (probe q plant state).state running
  probe_current Absent = is
  probe_current (Diagnosis sum) = by (walked plant state sum).outcome
    where
      some : (b : Bool) → IsCurrent plant (cond b (unchanged state (Refused NothingListed)) (unchanged state (probed_reply plant state (walked plant state sum).listed))).state running
      some true = is
      some false = is

      by : (o : Outcome) → IsCurrent plant (probe_by o plant state (walked plant state sum).listed).state running
      by Settled = some (nat_eq (length (walked plant state sum).listed) 0)
      by Unsettled = is
  probe_current (Recovery sum) = is
  probe_current (Test x sum) = is
  probe_current (Window steps sum) = is

  conflicts_current : (q : Query) → IsCurrent plant (conflicts q plant state).state running
  conflicts_current Absent = is
  conflicts_current (Diagnosis sum) = is
  conflicts_current (Recovery sum) = is
  conflicts_current (Test x sum) = is
  conflicts_current (Window steps sum) = is

  certificate_current : (q : Query) → IsCurrent plant (certificate q plant state).state running
  certificate_current q = by (is_certifiable q plant state)
    where
      by : (b : Bool) → IsCurrent plant (cond b (unchanged state Certified) (unchanged state (Refused NoQuery))).state running
      by true = is
      by false = is

-- what is kept after a request is that of the state that it leads to
module _ (plant : Plant) (old : SessionState) (before after : Running) (is : IsCurrent plant old before) where
  left : (next : SessionState) → IsCurrent plant next before → after ≡ before → IsCurrent plant next after
  left next now same = subst (IsCurrent plant next) (sym same) now

  cared_for : (request : Request) → IsCaredFor request plant (carried_out plant old request).state before after → IsCurrent plant (carried_out plant old request).state after
  cared_for Nothing care = left old is care
  cared_for (Track n) care = tt
  cared_for (TrackDistinct n) care = tt
  cared_for (SetBudget n) care = left (record old { budget = n }) (others_kept plant old before is n old.is_ended) care
  cared_for (SetControl c) care = tt
  cared_for (Release place) care = tt
  cared_for (Observe s) care = left (observe old s).state (observe_current plant old before is s) care
  cared_for (Retract name) care = left (retract old name).state (retract_current plant old before is name) care
  cared_for (RetractAt r) care = left (retract_at old r).state (retract_at_current plant old before is r) care
  cared_for (SetGoal g) care = left (set_goal old g).state (set_goal_current plant old before is g) care
  cared_for (DropGoal name) care = left (drop_goal old name).state (drop_goal_current plant old before is name) care
  cared_for Diagnose care = care.current
  cared_for Recover care = care.current
  cared_for (More n) care = care.current
  cared_for (ToTest x) care = care.current
  cared_for (ToWindow steps) care = care.current
  cared_for Commit care = left (commit old.query plant old).state (commit_current plant old before is old.query) care
  cared_for Conflicts care = left (conflicts old.query plant old).state (conflicts_current plant old before is old.query) care
  cared_for Certificate care = left (certificate old.query plant old).state (certificate_current plant old before is old.query) care
  cared_for Labels care = left old is care
  cared_for (LabelsFrom n) care = left (labelled_from plant old n).state (labelled_current plant old before is n) care
  cared_for States care = left old is care
  cared_for Reset care = tt
  cared_for Probe care = left (probe old.query plant old).state (probe_current plant old before is old.query) care
  cared_for Quit care = left (record old { is_ended = true }) (others_kept plant old before is old.budget true) care

  pub stays_current : (next : SessionState) (request : Request) (s : Stepped) → s ≡ carried_out plant old request → next ≡ s.state → IsCaredFor request plant next before after
      → IsCurrent plant next after
  stays_current next request s done same care =
      let e : next ≡ (carried_out plant old request).state = same ∙ ap (λ (t : Stepped). t.state) done in
      subst (λ (n : SessionState). IsCurrent plant n after) (sym e) (cared_for request (subst (λ (n : SessionState). IsCaredFor request plant n before after) e care))

-- a solver that is kept stays one of the plant
stays_kept : (plant : Plant) (next : SessionState) (before after : Running) → KeepsSolverOf plant before → (request : Request) → IsCaredFor request plant next before after → KeepsSolverOf plant after
stays_kept plant next before after keeps Diagnose care = care.solver
stays_kept plant next before after keeps Recover care = care.solver
stays_kept plant next before after keeps (More n) care = care.solver
stays_kept plant next before after keeps (ToTest x) care = care.solver
stays_kept plant next before after keeps (ToWindow steps) care = care.solver
stays_kept plant next before after keeps request care = subst (KeepsSolverOf plant) (sym care) keeps

-- whether a request was carried out or memory was wanting
pub work_kept : {E : Type 0} (plant : Plant) (old new : SessionState) (before after : Running) (request : Request) (result : Result Reply E) → IsCurrent plant old before → KeepsSolverOf plant before
    → IfOk result (λ reply. ◌≡◌ {A = Stepped} (record { state = new; reply = reply }) (carried_out plant old request)) → OnOk result (IsCaredFor request plant new before after)
    → OnOk result (IsWorking plant new after)
work_kept plant old new before after request (Ok reply) is keeps done care = record {
  current = stays_current plant old before after is new request (record { state = new; reply = reply }) done refl care;
  solver = stays_kept plant new before after keeps request care;
}
work_kept plant old new before after request (Err fault) is keeps done care = tt
