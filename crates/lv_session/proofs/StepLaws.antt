-- What holds of every step of a session.
use Rattle.std.proofs.Common.{◌≡◌, ℕ, ◌+◌, Bool, true, false, ◌||◌, cond, nat_eq, nat_le, ◌-◌, slice_get, Option, None, Some, List, ◌∷◌, [], ◌++◌, length, map, filter, Result, Ok, Err, refl, sym, ◌∙◌, ap, subst}
use Rattle.std.specs.Option.{option_map_or}
use Rattle.std.proofs.lemmas.Bool.{or_parts}
use Rattle.lv_base.specs.declared.limits.TheConstants.{COMMITS}
use Rattle.lv_base.specs.declared.ids.VarId.{VarId}
use Rattle.lv_base.specs.declared.rank.Rank.{Rank}
use Rattle.lv_model.specs.declared.plant.Plant.{Plant}
use Rattle.lv_model.specs.declared.state.State.{State}
use Rattle.lv_model.specs.declared.state.TrackedState.{TrackedState}
use Rattle.lv_boxes.specs.declared.outcome.Outcome.{Outcome}
use Rattle.lv_boxes.specs.declared.outcome.Outcome.TheVariants.{Settled, Unsettled}
use Rattle.lv_boxes.specs.Walk.{Walked}
use Rattle.lv_session_state.specs.lv_tracker.Tracked.{advanced}
use Rattle.lv_reply.specs.declared.reply.Refusal.{Refusal}
use Rattle.lv_reply.specs.declared.reply.Refusal.TheVariants.{NameHeld, NameNotHeld, OutOfLimits, NoQuery, NothingListed, NoGoal, TooManyHeld, TooManyCommits}
use Rattle.lv_reply.specs.declared.reply.Reply.{Reply}
use Rattle.lv_reply.specs.declared.reply.Reply.TheVariants.{Nothing as Silence, Refused, Committed, Certificate as Certified}
use Rattle.lv_labels.specs.declared.labelling.Labelling.{Labelling}
use Rattle.lv_labels.specs.declared.labelling.Labelling.TheVariants as labelling
use Rattle.lv_labels.specs.Literals.{fact_literals, state_literals}
use Rattle.lv_labels.specs.Finding.{labelling}
use Rattle.lv_session_state.specs.lv_session_request.declared.goals.Goal.{Goal}
use Rattle.lv_session_state.specs.lv_session_request.declared.request.Sighting.{Sighting}
use Rattle.lv_session_state.specs.lv_session_request.declared.request.Request.{Request}
use Rattle.lv_session_state.specs.lv_session_request.declared.request.Retraction.{Retraction}
use Rattle.lv_session_state.specs.lv_session_history.History.{has_steps}
use Rattle.lv_session_state.specs.Times.{is_kept, is_held_of, without_of, retract_at}
use Rattle.lv_session_state.specs.lv_session_request.declared.request.Request.TheVariants.{Nothing, Track, TrackDistinct, SetBudget, SetControl, Release, Observe, Retract, RetractAt, SetGoal, DropGoal, Diagnose, Recover, More, Commit, Conflicts, Certificate, Labels, LabelsFrom, States, Reset, Quit, Probe, Test as ToTest, Window as ToWindow}
use Rattle.lv_session_state.specs.lv_session_request.Requests.{request_of}
use Rattle.lv_session_state.specs.declared.query.Query.{Query}
use Rattle.lv_session_state.specs.declared.query.Query.TheVariants.{Absent, Diagnosis, Recovery, Test, Window}
use Rattle.lv_session_state.specs.lv_session_request.Held.{lacks_name}
use Rattle.lv_session_state.specs.State.{SessionState, Stepped, unchanged, cleared, walked, recovery, is_held, has_no_room, observe, retract, is_goal, has_no_goal_room, lacks_goal_name, set_goal, drop_goal, reply_by, diagnosis_reply, diagnosed, found, recovery_reply_by, recovery_reply, recovered, recover, more, more_by, more_recovery_by, facts_of, commit, commit_by, testing, test_reply_by, test_reply, found_test, tested, more_test_by, tracing, window_reply_by, window_reply, traced, look_back, more_window_by, last_step, conflicts, taken_over, advanced_to}
use Rattle.lv_session.specs.Session.{is_certifiable, certificate, labels_reply, labelled, labelled_from, probed_reply, probe_by, probe, carried_out, answered, stepped}
use Rattle.lv_session.specs.Certificates.{IsDue}
use Rattle.lv_session.specs.Laws.{is_refused, is_certificate, clears}

-- a refusal, or a certificate
abbrev keeps : Reply → Bool
keeps reply = is_refused reply || is_certificate reply

-- the line asks for a certificate
abbrev pub asks_certificate : Request → Bool
asks_certificate Certificate = true
asks_certificate request = false

-- where the reply is a refusal or a certificate the state is this one; where it is no refusal, and the request clears, no query is
-- current; where it is a certificate the query is settled; and it is none unless one is asked for
pub record IsFair (plant : Plant) (state : SessionState) (clearing certifying : Bool) (s : Stepped) : Type 0 where
  pub kept : keeps s.reply ≡ true → s.state ≡ state
  pub carried : clearing ≡ true → is_refused s.reply ≡ false → s.state.query ≡ Absent
  pub due : IsDue plant s.state s.reply
  pub told : certifying ≡ false → is_certificate s.reply ≡ false

-- a reply that is no refusal and no certificate
record IsAnswer (plant : Plant) (next : SessionState) (reply : Reply) : Type 0 where
  pub plain : keeps reply ≡ false
  pub due : IsDue plant next reply

-- a refusal
fair_refusal : (plant : Plant) (state : SessionState) (b : Bool) (refusal : Refusal) → IsFair plant state b false (unchanged state (Refused refusal))
fair_refusal plant state b refusal = record { kept = λ _. refl; carried = λ _ e. absurd (cc e); due = tt; told = λ _. refl }

-- accepted, and cleared
fair_clearing : (plant : Plant) (state next : SessionState) (b : Bool) → IsFair plant state b false (cleared next)
fair_clearing plant state next b = record { kept = λ e. absurd (cc e); carried = λ _ _. refl; due = tt; told = λ _. refl }

module _ (plant : Plant) (state : SessionState) where
  fair_observe : (s : Sighting) → IsFair plant state true false (observe state s)
  fair_observe s = by (is_held state s.name) (has_no_room state s.name)
    where
      by : (a b : Bool) → IsFair plant state true false (cond a (unchanged state (Refused NameHeld)) (cond b (unchanged state (Refused TooManyHeld)) (cleared (record state { next = state.next ++ (s ∷ []) }))))
      by true b = fair_refusal plant state true NameHeld
      by false true = fair_refusal plant state true TooManyHeld
      by false false = fair_clearing plant state (record state { next = state.next ++ (s ∷ []) }) true

  fair_retract : (name : List ℕ) → IsFair plant state true false (retract state name)
  fair_retract name = by (is_held state name)
    where
      by : (b : Bool)
          → IsFair plant state true false (cond b (cleared (record state { present = filter (lacks_name name) state.present; next = filter (lacks_name name) state.next })) (unchanged state (Refused NameNotHeld)))
      by true = fair_clearing plant state (record state { present = filter (lacks_name name) state.present; next = filter (lacks_name name) state.next }) true
      by false = fair_refusal plant state true NameNotHeld

  fair_retract_at : (r : Retraction) → IsFair plant state true false (retract_at state r)
  fair_retract_at r = by (is_kept state r.time) (is_held_of state r.time r.name)
    where
      by : (a b : Bool) → IsFair plant state true false (cond a (cond b (cleared (without_of state r.time r.name)) (unchanged state (Refused NameNotHeld))) (unchanged state (Refused OutOfLimits)))
      by true true = fair_clearing plant state (without_of state r.time r.name) true
      by true false = fair_refusal plant state true NameNotHeld
      by false b = fair_refusal plant state true OutOfLimits

  fair_goal : (g : Goal) → IsFair plant state true false (set_goal state g)
  fair_goal g = by (is_goal state g.name) (has_no_goal_room state g.name)
    where
      by : (a b : Bool) → IsFair plant state true false (cond a (unchanged state (Refused NameHeld)) (cond b (unchanged state (Refused TooManyHeld)) (cleared (record state { goals = state.goals ++ (g ∷ []) }))))
      by true b = fair_refusal plant state true NameHeld
      by false true = fair_refusal plant state true TooManyHeld
      by false false = fair_clearing plant state (record state { goals = state.goals ++ (g ∷ []) }) true

  fair_drop : (name : List ℕ) → IsFair plant state true false (drop_goal state name)
  fair_drop name = by (is_goal state name)
    where
      by : (b : Bool) → IsFair plant state true false (cond b (cleared (record state { goals = filter (lacks_goal_name name) state.goals })) (unchanged state (Refused NameNotHeld)))
      by true = fair_clearing plant state (record state { goals = filter (lacks_goal_name name) state.goals }) true
      by false = fair_refusal plant state true NameNotHeld

  fair_answer : (s : Stepped) → IsAnswer plant s.state s.reply → IsFair plant state false false s
  fair_answer s is = record {
    kept = λ e. let clash : true ≡ false = sym e ∙ is.plain in absurd (cc clash);
    carried = λ e _. absurd (cc e);
    due = is.due;
    told = λ _. (or_parts (is_refused s.reply) (is_certificate s.reply) is.plain).1;
  }

  diagnosis_answers : (next : SessionState) (o : Outcome) (w : Walked) → IsAnswer plant next (reply_by o w)
  diagnosis_answers next Settled w = record { plain = refl; due = tt }
  diagnosis_answers next Unsettled w = record { plain = refl; due = tt }

  fair_diagnosis : (sum : ℕ) → IsFair plant state false false (diagnosed plant state sum)
  fair_diagnosis sum =
      let w = walked plant state sum in
      fair_answer (diagnosed plant state sum) (diagnosis_answers (diagnosed plant state sum).state w.outcome w)

  recovery_answers : (next : SessionState) (o : Outcome) (w : Walked) → IsAnswer plant next (recovery_reply_by o w)
  recovery_answers next Settled w = by w.listed
    where
      by : (rs : List Rank) → IsAnswer plant next (found rs)
      by [] = record { plain = refl; due = tt }
      by (r ∷ rs) = record { plain = refl; due = tt }
  recovery_answers next Unsettled w = record { plain = refl; due = tt }

  fair_recovery : (sum : ℕ) → IsFair plant state false false (recovered plant state sum)
  fair_recovery sum =
      let w = recovery plant state sum in
      fair_answer (recovered plant state sum) (recovery_answers (recovered plant state sum).state w.outcome w)

  test_answers : (next : SessionState) (o : Outcome) (w : Walked) → IsAnswer plant next (test_reply_by o w)
  test_answers next Settled w = by w.listed
    where
      by : (rs : List Rank) → IsAnswer plant next (found_test rs)
      by [] = record { plain = refl; due = tt }
      by (r ∷ rs) = record { plain = refl; due = tt }
  test_answers next Unsettled w = record { plain = refl; due = tt }

  fair_test : (x : VarId) (sum : ℕ) → IsFair plant state false false (tested plant state x sum)
  fair_test x sum =
      let w = testing plant state x sum in
      fair_answer (tested plant state x sum) (test_answers (tested plant state x sum).state w.outcome w)

  window_answers : (next : SessionState) (o : Outcome) (steps : ℕ) (w : Walked) → IsAnswer plant next (window_reply_by o steps w)
  window_answers next Settled steps w = record { plain = refl; due = tt }
  window_answers next Unsettled steps w = record { plain = refl; due = tt }

  fair_window : (steps sum : ℕ) → IsFair plant state false false (traced plant state steps sum)
  fair_window steps sum =
      let w = tracing plant state steps sum in
      fair_answer (traced plant state steps sum) (window_answers (traced plant state steps sum).state w.outcome steps w)

  fair_look_back : (steps : ℕ) → IsFair plant state false false (look_back plant state steps)
  fair_look_back steps = by (has_steps state.history steps)
    where
      by : (b : Bool) → IsFair plant state false false (cond b (traced plant state steps state.budget) (unchanged state (Refused OutOfLimits)))
      by true = fair_window steps state.budget
      by false = fair_refusal plant state false OutOfLimits

  fair_recover : IsFair plant state false false (recover plant state)
  fair_recover = by (nat_eq (length state.goals) 0)
    where
      by : (b : Bool) → IsFair plant state false false (cond b (unchanged state (Refused NoGoal)) (recovered plant state state.budget))
      by true = fair_refusal plant state false NoGoal
      by false = fair_recovery state.budget

  -- what propagation finds is no refusal, and changes nothing
  fair_labels : (of : Option State) → IsFair plant state false false (labelled plant state of)
  fair_labels of =
      let found = labelling plant (fact_literals plant (facts_of state) ++ state_literals plant of) in
      record { kept = λ _. refl; carried = λ e _. absurd (cc e); due = labels_due found; told = λ _. labels_told found }
    where
      labels_due : (l : Labelling) → IsDue plant state (labels_reply l)
      labels_due labelling.Contradiction = tt
      labels_due (labelling.Labels labels) = tt

      labels_told : (l : Labelling) → is_certificate (labels_reply l) ≡ false
      labels_told labelling.Contradiction = refl
      labels_told (labelling.Labels labels) = refl

  fair_labels_from : (n : ℕ) → IsFair plant state false false (labelled_from plant state n)
  fair_labels_from n = by (slice_get state.tracked (n - 1))
    where
      by : (o : Option TrackedState) → IsFair plant state false false (option_map_or (λ (s : TrackedState). labelled plant state (Some s.state)) o (unchanged state (Refused OutOfLimits)))
      by None = fair_refusal plant state false OutOfLimits
      by (Some s) = fair_labels (Some s.state)

  fair_more : (q : Query) (n : ℕ) → IsFair plant state false false (more q plant state n)
  fair_more Absent n = record { kept = λ _. refl; carried = λ e _. absurd (cc e); due = tt; told = λ _. refl }
  fair_more (Diagnosis sum) n = by (walked plant state sum).outcome
    where
      by : (o : Outcome) → IsFair plant state false false (more_by o plant state (sum + n))
      by Settled = record { kept = λ _. refl; carried = λ e _. absurd (cc e); due = tt; told = λ _. refl }
      by Unsettled = fair_diagnosis (sum + n)
  fair_more (Recovery sum) n = by (recovery plant state sum).outcome
    where
      by : (o : Outcome) → IsFair plant state false false (more_recovery_by o plant state (sum + n))
      by Settled = record { kept = λ _. refl; carried = λ e _. absurd (cc e); due = tt; told = λ _. refl }
      by Unsettled = fair_recovery (sum + n)
  fair_more (Test x sum) n = by (testing plant state x sum).outcome
    where
      by : (o : Outcome) → IsFair plant state false false (more_test_by o plant state x (sum + n))
      by Settled = record { kept = λ _. refl; carried = λ e _. absurd (cc e); due = tt; told = λ _. refl }
      by Unsettled = fair_test x (sum + n)
  fair_more (Window steps sum) n = by (tracing plant state steps sum).outcome
    where
      by : (o : Outcome) → IsFair plant state false false (more_window_by o plant state steps (sum + n))
      by Settled = record { kept = λ _. refl; carried = λ e _. absurd (cc e); due = tt; told = λ _. refl }
      by Unsettled = fair_window steps (sum + n)

  fair_conflicts : (q : Query) → IsFair plant state false false (conflicts q plant state)
  fair_conflicts Absent = record { kept = λ _. refl; carried = λ e _. absurd (cc e); due = tt; told = λ _. refl }
  fair_conflicts (Diagnosis sum) = record { kept = λ _. refl; carried = λ e _. absurd (cc e); due = tt; told = λ _. refl }
  fair_conflicts (Recovery sum) = record { kept = λ _. refl; carried = λ e _. absurd (cc e); due = tt; told = λ _. refl }
  fair_conflicts (Test x sum) = record { kept = λ _. refl; carried = λ e _. absurd (cc e); due = tt; told = λ _. refl }
  fair_conflicts (Window steps sum) = record { kept = λ _. refl; carried = λ e _. absurd (cc e); due = tt; told = λ _. refl }

  fair_certificate : IsFair plant state false true (certificate state.query plant state)
  fair_certificate = by (is_certifiable state.query plant state) refl
    where
      by : (b : Bool) → is_certifiable state.query plant state ≡ b → IsFair plant state false true (cond b (unchanged state Certified) (unchanged state (Refused NoQuery)))
      by true e = record { kept = λ _. refl; carried = λ c _. absurd (cc c); due = e; told = λ c. absurd (cc c) }
      by false e = record { kept = λ _. refl; carried = λ c _. absurd (cc c); due = tt; told = λ _. refl }

  fair_taking : (listed : List Rank) → IsFair plant state true false (taken_over plant state listed)
  fair_taking listed = by (nat_eq (length listed) 0) (nat_le COMMITS state.time)
    where
      by : (a b : Bool) → IsFair plant state true false (cond a (unchanged state (Refused NothingListed)) (cond b (unchanged state (Refused TooManyCommits))
          (record { state = advanced_to plant state listed; reply = Committed (state.time + 1) (length (advanced plant listed)) })))
      by true b = fair_refusal plant state true NothingListed
      by false true = fair_refusal plant state true TooManyCommits
      by false false = record { kept = λ e. absurd (cc e); carried = λ _ _. refl; due = tt; told = λ _. refl }

  fair_commit : (q : Query) → IsFair plant state true false (commit q plant state)
  fair_commit Absent = record { kept = λ _. refl; carried = λ _ e. absurd (cc e); due = tt; told = λ _. refl }
  fair_commit (Diagnosis sum) = by (walked plant state sum).outcome
    where
      by : (o : Outcome) → IsFair plant state true false (commit_by o plant state (walked plant state sum).listed)
      by Settled = fair_taking (walked plant state sum).listed
      by Unsettled = record { kept = λ _. refl; carried = λ _ e. absurd (cc e); due = tt; told = λ _. refl }
  fair_commit (Recovery sum) = record { kept = λ _. refl; carried = λ _ e. absurd (cc e); due = tt; told = λ _. refl }
  fair_commit (Test x sum) = record { kept = λ _. refl; carried = λ _ e. absurd (cc e); due = tt; told = λ _. refl }
  fair_commit (Window steps sum) = by (tracing plant state steps sum).outcome
    where
      by : (o : Outcome) → IsFair plant state true false (commit_by o plant state (map (last_step plant) (tracing plant state steps sum).listed))
      by Settled = fair_taking (map (last_step plant) (tracing plant state steps sum).listed)
      by Unsettled = record { kept = λ _. refl; carried = λ _ e. absurd (cc e); due = tt; told = λ _. refl }

  fair_probe : (q : Query) → IsFair plant state false false (probe q plant state)
  fair_probe Absent = fair_refusal plant state false NoQuery
  fair_probe (Diagnosis sum) = by (walked plant state sum).outcome
    where
      some : (b : Bool) → IsFair plant state false false (cond b (unchanged state (Refused NothingListed)) (unchanged state (probed_reply plant state (walked plant state sum).listed)))
      some true = fair_refusal plant state false NothingListed
      some false = record { kept = λ _. refl; carried = λ e _. absurd (cc e); due = tt; told = λ _. refl }

      by : (o : Outcome) → IsFair plant state false false (probe_by o plant state (walked plant state sum).listed)
      by Settled = some (nat_eq (length (walked plant state sum).listed) 0)
      by Unsettled = fair_refusal plant state false NoQuery
  fair_probe (Recovery sum) = fair_refusal plant state false NoQuery
  fair_probe (Test x sum) = fair_refusal plant state false NoQuery
  fair_probe (Window steps sum) = fair_refusal plant state false NoQuery

  pub fair_request : (request : Request) → IsFair plant state (clears request) (asks_certificate request) (carried_out plant state request)
  fair_request Nothing = record { kept = λ _. refl; carried = λ e _. absurd (cc e); due = tt; told = λ _. refl }
  fair_request (Track n) = fair_clearing plant state (record state { k = n; distinct = false }) true
  fair_request (TrackDistinct n) = fair_clearing plant state (record state { k = n; distinct = true }) true
  fair_request (SetBudget n) = record { kept = λ e. absurd (cc e); carried = λ e _. absurd (cc e); due = tt; told = λ _. refl }
  fair_request (SetControl c) = record { kept = λ e. absurd (cc e); carried = λ _ _. refl; due = tt; told = λ _. refl }
  fair_request (Release place) = record { kept = λ e. absurd (cc e); carried = λ _ _. refl; due = tt; told = λ _. refl }
  fair_request (Observe s) = fair_observe s
  fair_request (Retract name) = fair_retract name
  fair_request (RetractAt r) = fair_retract_at r
  fair_request (SetGoal g) = fair_goal g
  fair_request (DropGoal name) = fair_drop name
  fair_request Diagnose = fair_diagnosis state.budget
  fair_request Recover = fair_recover
  fair_request (More n) = fair_more state.query n
  fair_request Commit = fair_commit state.query
  fair_request Conflicts = fair_conflicts state.query
  fair_request Certificate = fair_certificate
  fair_request Labels = fair_labels None
  fair_request (LabelsFrom n) = fair_labels_from n
  fair_request States = record { kept = λ _. refl; carried = λ e _. absurd (cc e); due = tt; told = λ _. refl }
  fair_request Reset = record { kept = λ e. absurd (cc e); carried = λ _ _. refl; due = tt; told = λ _. refl }
  fair_request Quit = record { kept = λ e. absurd (cc e); carried = λ e _. absurd (cc e); due = tt; told = λ _. refl }
  fair_request Probe = fair_probe state.query
  fair_request (ToTest x) = fair_test x state.budget
  fair_request (ToWindow steps) = fair_look_back steps

  answered_due : (r : Result Request Refusal) → IsDue plant (answered plant state r).state (answered plant state r).reply
  answered_due (Ok request) = (fair_request request).due
  answered_due (Err refusal) = tt

  -- a certificate is told where one is asked for
  pub request_told : (request : Request) → asks_certificate request ≡ false → is_certificate (carried_out plant state request).reply ≡ false
  request_told request none = (fair_request request).told none

  -- a certificate is told of a settled query alone
  pub stepped_due : (line : List ℕ) → IsDue plant (stepped plant state line).state (stepped plant state line).reply
  stepped_due line = by state.is_ended
    where
      by : (b : Bool)
          → IsDue plant (cond b (unchanged state Silence) (answered plant state (request_of plant line))).state (cond b (unchanged state Silence) (answered plant state (request_of plant line))).reply
      by true = tt
      by false = answered_due (request_of plant line)

  -- the same of what a step led to
  pub due_behind : (line : List ℕ) (next : SessionState) (reply : Reply) → record { state = next; reply = reply } ≡ stepped plant state line → IsDue plant next reply
  due_behind line next reply is = subst (λ (s : Stepped). IsDue plant s.state s.reply) (sym is) (stepped_due line)

  answered_kept : (r : Result Request Refusal) → keeps (answered plant state r).reply ≡ true → (answered plant state r).state ≡ state
  answered_kept (Ok request) = (fair_request request).kept
  answered_kept (Err refusal) = λ _. refl

  stepped_kept : (line : List ℕ) → keeps (stepped plant state line).reply ≡ true → (stepped plant state line).state ≡ state
  stepped_kept line = by state.is_ended
    where
      by : (b : Bool) → keeps (cond b (unchanged state Silence) (answered plant state (request_of plant line))).reply ≡ true
          → (cond b (unchanged state Silence) (answered plant state (request_of plant line))).state ≡ state
      by true = λ _. refl
      by false = answered_kept (request_of plant line)

  pub refused_stays : (line : List ℕ) → is_refused (stepped plant state line).reply ≡ true → (stepped plant state line).state ≡ state
  refused_stays line e = stepped_kept line (ap (λ (b : Bool). b || is_certificate (stepped plant state line).reply) e)

  pub certified_stays : (line : List ℕ) → (stepped plant state line).reply ≡ Certified → (stepped plant state line).state ≡ state
  certified_stays line e = stepped_kept line (ap keeps e)

  pub certified_settled : (line : List ℕ) → (stepped plant state line).reply ≡ Certified → is_certifiable state.query plant state ≡ true
  certified_settled line e =
      subst (λ (s : SessionState). is_certifiable s.query plant s ≡ true) (certified_stays line e)
      (subst (λ (r : Reply). IsDue plant (stepped plant state line).state r) e (stepped_due line))

  pub sum_walked : (sum n : ℕ) (q : Query) → q ≡ Diagnosis sum → (walked plant state sum).outcome ≡ Unsettled
      → (more q plant state n).reply ≡ diagnosis_reply (walked plant state (sum + n))
  sum_walked sum n q is unsettled =
      ap (λ (x : Query). (more x plant state n).reply) is ∙ ap (λ (x : Outcome). (more_by x plant state (sum + n)).reply) unsettled

  pub sum_recovered : (sum n : ℕ) (q : Query) → q ≡ Recovery sum → (recovery plant state sum).outcome ≡ Unsettled
      → (more q plant state n).reply ≡ recovery_reply (recovery plant state (sum + n))
  sum_recovered sum n q is unsettled =
      ap (λ (x : Query). (more x plant state n).reply) is ∙ ap (λ (x : Outcome). (more_recovery_by x plant state (sum + n)).reply) unsettled

  pub sum_tested : (x : VarId) (sum n : ℕ) (q : Query) → q ≡ Test x sum → (testing plant state x sum).outcome ≡ Unsettled
      → (more q plant state n).reply ≡ test_reply (testing plant state x (sum + n))
  sum_tested x sum n q is unsettled =
      ap (λ (asked : Query). (more asked plant state n).reply) is ∙ ap (λ (o : Outcome). (more_test_by o plant state x (sum + n)).reply) unsettled

  pub sum_traced : (steps sum n : ℕ) (q : Query) → q ≡ Window steps sum → (tracing plant state steps sum).outcome ≡ Unsettled
      → (more q plant state n).reply ≡ window_reply steps (tracing plant state steps (sum + n))
  sum_traced steps sum n q is unsettled =
      ap (λ (asked : Query). (more asked plant state n).reply) is ∙ ap (λ (o : Outcome). (more_window_by o plant state steps (sum + n)).reply) unsettled

  pub ended_stays : (line : List ℕ) → state.is_ended ≡ true → stepped plant state line ≡ unchanged state Silence
  ended_stays line e = ap (λ b. cond b (unchanged state Silence) (answered plant state (request_of plant line))) e
