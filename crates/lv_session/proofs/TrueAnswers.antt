-- Settled answers are the first.
use Rattle.std.proofs.Common.{◌≡◌, ℕ, ◌+◌, ◌-◌, Bool, true, false, cond, nat_eq, nat_le, slice_get, Option, None, Some, List, [], ◌∷◌, ◌++◌, length, map, Contains, filter, Result, Ok, Err, refl, sym, subst, arith}
use Rattle.std.specs.Option.{option_map_or}
use Rattle.lv_base.specs.declared.limits.TheConstants.{COMMITS}
use Rattle.lv_base.specs.declared.ids.VarId.{VarId}
use Rattle.lv_base.specs.declared.rank.Rank.{Rank}
use Rattle.lv_model.specs.declared.plant.Plant.{Plant}
use Rattle.lv_model.specs.declared.state.State.{State}
use Rattle.lv_model.specs.declared.state.TrackedState.{TrackedState}
use Rattle.lv_boxes.specs.declared.outcome.Outcome.{Outcome}
use Rattle.lv_boxes.specs.declared.outcome.Outcome.TheVariants.{Settled, Unsettled}
use Rattle.lv_session_state.proofs.lv_meaning.DiagnosisWalks.{answers}
use Rattle.lv_session_state.proofs.lv_meaning.RecoveryWalks.{walk_found, walk_none}
use Rattle.lv_session_state.specs.lv_tracker.Tracked.{advanced}
use Rattle.lv_labels.specs.declared.labelling.Labelling.{Labelling}
use Rattle.lv_labels.specs.declared.labelling.Labelling.TheVariants as labelling
use Rattle.lv_labels.specs.Literals.{fact_literals, state_literals}
use Rattle.lv_labels.specs.Finding.{labelling}
use Rattle.lv_reply.specs.declared.reply.Refusal.{Refusal}
use Rattle.lv_reply.specs.declared.reply.Refusal.TheVariants.{NameHeld, NameNotHeld, OutOfLimits, NoQuery, NothingListed, NoGoal, TooManyHeld, TooManyCommits}
use Rattle.lv_reply.specs.declared.reply.Reply.TheVariants.{Nothing as Silence, Refused, Committed, Certificate as Certified}
use Rattle.lv_session_state.specs.lv_session_request.declared.request.Request.{Request}
use Rattle.lv_session_state.specs.lv_session_history.History.{has_steps}
use Rattle.lv_session_state.specs.Times.{is_kept, is_held_of, without_of}
use Rattle.lv_session_state.specs.lv_session_request.declared.request.Request.TheVariants.{Nothing, Track, TrackDistinct, SetBudget, SetControl, Release, Observe, Retract, RetractAt, SetGoal, DropGoal, Diagnose, Recover, More, Commit, Conflicts, Certificate, Labels, LabelsFrom, States, Reset, Quit, Probe, Test as ToTest, Window as ToWindow}
use Rattle.lv_session_state.specs.lv_session_request.Requests.{request_of}
use Rattle.lv_session_state.specs.lv_session_request.Held.{lacks_name}
use Rattle.lv_session_state.specs.declared.query.Query.{Query}
use Rattle.lv_session_state.specs.declared.query.Query.TheVariants.{Absent, Diagnosis, Recovery, Test, Window}
use Rattle.lv_session_state.specs.State.{SessionState, Stepped, unchanged, cleared, walked, recovery, aim_of, test_aim_of, facts_of, is_held, has_no_room, is_goal, has_no_goal_room, lacks_goal_name, reply_by, diagnosed, found, recovery_reply_by, recovered, more, more_by, more_recovery_by, commit, commit_by, testing, found_test, test_reply_by, tested, more_test_by, tracing, window_reply_by, traced, more_window_by, last_step, conflicts, taken_over, advanced_to}
use Rattle.lv_session_state.proofs.TestWalks.{test_found, test_none}
use Rattle.lv_session_state.proofs.WindowReadings.{window_settled}
use Rattle.lv_session.specs.Session.{is_certifiable, labels_reply, labelled, labelled_from, probed_reply, probe_by, probe, carried_out, answered, stepped}
use Rattle.lv_session.specs.Transcript.{IsTranscriptFrom, ends, goes_on, AddsTranscript}
use Rattle.lv_session.specs.Answers.{IsTrueAnswer, AnswersTruly, IsTrueTranscriptFrom, all_told, told, AddsTrueTranscript}

module _ (plant : Plant) (state : SessionState) where
  -- a diagnosis that came to its walk
  walked_true : (q : Query) (sum : ℕ) (o : Outcome) → (walked plant state sum).outcome ≡ o → IsTrueAnswer plant state q (reply_by o (walked plant state sum))
  unfolding walked
  walked_true q sum Settled settled = answers state.distinct plant (facts_of state) state.k sum state.tracked settled
  walked_true q sum Unsettled e = tt

  diagnosis_true : (sum : ℕ) → AnswersTruly plant state (diagnosed plant state sum)
  diagnosis_true sum = walked_true (Diagnosis sum) sum (walked plant state sum).outcome refl

  -- a recovery that came to its walk
  found_true : (q : Query) (sum : ℕ) (rs : List Rank) → (recovery plant state sum).outcome ≡ Settled → (recovery plant state sum).listed ≡ rs → IsTrueAnswer plant state q (found rs)
  unfolding recovery
  found_true q sum [] settled e = walk_none plant (aim_of state) sum settled e
  found_true q sum (r ∷ rs) settled e = walk_found plant (aim_of state) sum r settled (subst (λ (xs : List Rank). Contains xs r) (sym e) (0, omega arith, refl))

  recovery_by_true : (q : Query) (sum : ℕ) (o : Outcome) → (recovery plant state sum).outcome ≡ o → IsTrueAnswer plant state q (recovery_reply_by o (recovery plant state sum))
  recovery_by_true q sum Settled settled = found_true q sum (recovery plant state sum).listed settled refl
  recovery_by_true q sum Unsettled e = tt

  recovery_true : (sum : ℕ) → AnswersTruly plant state (recovered plant state sum)
  recovery_true sum = recovery_by_true (Recovery sum) sum (recovery plant state sum).outcome refl

  -- replies by cases of which none is an answer
  either : (b : Bool) (s t : Stepped) → AnswersTruly plant state s → AnswersTruly plant state t → AnswersTruly plant state (cond b s t)
  either true s t p q = p
  either false s t p q = q

  labelled_true : (of : Option State) → AnswersTruly plant state (labelled plant state of)
  labelled_true of = by (labelling plant (fact_literals plant (facts_of state) ++ state_literals plant of))
    where
      by : (l : Labelling) → IsTrueAnswer plant state state.query (labels_reply l)
      by labelling.Contradiction = tt
      by (labelling.Labels labels) = tt

  labelled_from_true : (n : ℕ) → AnswersTruly plant state (labelled_from plant state n)
  labelled_from_true n = by (slice_get state.tracked (n - 1))
    where
      by : (o : Option TrackedState) → AnswersTruly plant state (option_map_or (λ (s : TrackedState). labelled plant state (Some s.state)) o (unchanged state (Refused OutOfLimits)))
      by None = tt
      by (Some s) = labelled_true (Some s.state)

  -- a test that came to its walk
  told_true : (x : VarId) (sum : ℕ) (rs : List Rank) → (testing plant state x sum).outcome ≡ Settled → (testing plant state x sum).listed ≡ rs → IsTrueAnswer plant state (Test x sum) (found_test rs)
  unfolding testing
  told_true x sum [] settled e = test_none plant (test_aim_of state) x sum settled e
  told_true x sum (r ∷ rs) settled e = test_found plant (test_aim_of state) x sum r settled (subst (λ (xs : List Rank). Contains xs r) (sym e) (0, omega arith, refl))

  test_by_true : (x : VarId) (sum : ℕ) (o : Outcome) → (testing plant state x sum).outcome ≡ o → IsTrueAnswer plant state (Test x sum) (test_reply_by o (testing plant state x sum))
  test_by_true x sum Settled settled = told_true x sum (testing plant state x sum).listed settled refl
  test_by_true x sum Unsettled e = tt

  test_true : (x : VarId) (sum : ℕ) → AnswersTruly plant state (tested plant state x sum)
  test_true x sum = test_by_true x sum (testing plant state x sum).outcome refl

  -- a window that came to its walk
  window_by_true : (q : Query) (steps sum : ℕ) (o : Outcome) → (tracing plant state steps sum).outcome ≡ o → IsTrueAnswer plant state q (window_reply_by o steps (tracing plant state steps sum))
  window_by_true q steps sum Settled settled = window_settled plant state steps sum settled
  window_by_true q steps sum Unsettled e = tt

  window_true : (steps sum : ℕ) → AnswersTruly plant state (traced plant state steps sum)
  window_true steps sum = window_by_true (Window steps sum) steps sum (tracing plant state steps sum).outcome refl

  more_true : (q : Query) (n : ℕ) → AnswersTruly plant state (more q plant state n)
  more_true Absent n = tt
  more_true (Diagnosis sum) n = by (walked plant state sum).outcome
    where
      by : (o : Outcome) → AnswersTruly plant state (more_by o plant state (sum + n))
      by Settled = tt
      by Unsettled = diagnosis_true (sum + n)
  more_true (Recovery sum) n = by (recovery plant state sum).outcome
    where
      by : (o : Outcome) → AnswersTruly plant state (more_recovery_by o plant state (sum + n))
      by Settled = tt
      by Unsettled = recovery_true (sum + n)
  more_true (Test x sum) n = by (testing plant state x sum).outcome
    where
      by : (o : Outcome) → AnswersTruly plant state (more_test_by o plant state x (sum + n))
      by Settled = tt
      by Unsettled = test_true x (sum + n)
  more_true (Window steps sum) n = by (tracing plant state steps sum).outcome
    where
      by : (o : Outcome) → AnswersTruly plant state (more_window_by o plant state steps (sum + n))
      by Settled = tt
      by Unsettled = window_true steps (sum + n)

  taking_true : (listed : List Rank) → AnswersTruly plant state (taken_over plant state listed)
  taking_true listed =
      either (nat_eq (length listed) 0) (unchanged state (Refused NothingListed))
      (cond (nat_le COMMITS state.time) (unchanged state (Refused TooManyCommits)) (record { state = advanced_to plant state listed; reply = Committed (state.time + 1) (length (advanced plant listed)) })) tt
      (either (nat_le COMMITS state.time) (unchanged state (Refused TooManyCommits)) (record { state = advanced_to plant state listed; reply = Committed (state.time + 1) (length (advanced plant listed)) }) tt tt)

  commit_true : (q : Query) → AnswersTruly plant state (commit q plant state)
  commit_true Absent = tt
  commit_true (Diagnosis sum) = by (walked plant state sum).outcome
    where
      by : (o : Outcome) → AnswersTruly plant state (commit_by o plant state (walked plant state sum).listed)
      by Settled = taking_true (walked plant state sum).listed
      by Unsettled = tt
  commit_true (Recovery sum) = tt
  commit_true (Test x sum) = tt
  commit_true (Window steps sum) = by (tracing plant state steps sum).outcome
    where
      by : (o : Outcome) → AnswersTruly plant state (commit_by o plant state (map (last_step plant) (tracing plant state steps sum).listed))
      by Settled = taking_true (map (last_step plant) (tracing plant state steps sum).listed)
      by Unsettled = tt

  probe_true : (q : Query) → AnswersTruly plant state (probe q plant state)
  probe_true Absent = tt
  probe_true (Diagnosis sum) = by (walked plant state sum).outcome
    where
      by : (o : Outcome) → AnswersTruly plant state (probe_by o plant state (walked plant state sum).listed)
      by Settled =
          either (nat_eq (length (walked plant state sum).listed) 0) (unchanged state (Refused NothingListed))
          (unchanged state (probed_reply plant state (walked plant state sum).listed)) tt tt
      by Unsettled = tt
  probe_true (Recovery sum) = tt
  probe_true (Test x sum) = tt
  probe_true (Window steps sum) = tt

  conflicts_true : (q : Query) → AnswersTruly plant state (conflicts q plant state)
  conflicts_true Absent = tt
  conflicts_true (Diagnosis sum) = tt
  conflicts_true (Recovery sum) = tt
  conflicts_true (Test x sum) = tt
  conflicts_true (Window steps sum) = tt

  request_true : (request : Request) → AnswersTruly plant state (carried_out plant state request)
  request_true Nothing = tt
  request_true (Track n) = tt
  request_true (TrackDistinct n) = tt
  request_true (SetBudget n) = tt
  request_true (SetControl c) = tt
  request_true (Release place) = tt
  request_true (Observe s) =
      either (is_held state s.name) (unchanged state (Refused NameHeld)) (cond (has_no_room state s.name) (unchanged state (Refused TooManyHeld)) (cleared (record state { next = state.next ++ (s ∷ []) }))) tt
      (either (has_no_room state s.name) (unchanged state (Refused TooManyHeld)) (cleared (record state { next = state.next ++ (s ∷ []) })) tt tt)
  request_true (Retract name) =
      either (is_held state name) (cleared (record state { present = filter (lacks_name name) state.present; next = filter (lacks_name name) state.next })) (unchanged state (Refused NameNotHeld)) tt tt
  request_true (RetractAt r) =
      either (is_kept state r.time) (cond (is_held_of state r.time r.name) (cleared (without_of state r.time r.name)) (unchanged state (Refused NameNotHeld))) (unchanged state (Refused OutOfLimits))
      (either (is_held_of state r.time r.name) (cleared (without_of state r.time r.name)) (unchanged state (Refused NameNotHeld)) tt tt) tt
  request_true (SetGoal g) =
      either (is_goal state g.name) (unchanged state (Refused NameHeld)) (cond (has_no_goal_room state g.name) (unchanged state (Refused TooManyHeld)) (cleared (record state { goals = state.goals ++ (g ∷ []) }))) tt
      (either (has_no_goal_room state g.name) (unchanged state (Refused TooManyHeld)) (cleared (record state { goals = state.goals ++ (g ∷ []) })) tt tt)
  request_true (DropGoal name) =
      either (is_goal state name) (cleared (record state { goals = filter (lacks_goal_name name) state.goals })) (unchanged state (Refused NameNotHeld)) tt tt
  request_true Diagnose = diagnosis_true state.budget
  request_true Recover = either (nat_eq (length state.goals) 0) (unchanged state (Refused NoGoal)) (recovered plant state state.budget) tt (recovery_true state.budget)
  request_true (More n) = more_true state.query n
  request_true Commit = commit_true state.query
  request_true Conflicts = conflicts_true state.query
  request_true Certificate = either (is_certifiable state.query plant state) (unchanged state Certified) (unchanged state (Refused NoQuery)) tt tt
  request_true Labels = labelled_true None
  request_true (LabelsFrom n) = labelled_from_true n
  request_true States = tt
  request_true Reset = tt
  request_true Quit = tt
  request_true Probe = probe_true state.query
  request_true (ToTest x) = test_true x state.budget
  request_true (ToWindow steps) = either (has_steps state.history steps) (traced plant state steps state.budget) (unchanged state (Refused OutOfLimits)) (window_true steps state.budget) tt

  answered_true : (r : Result Request Refusal) → AnswersTruly plant state (answered plant state r)
  answered_true (Ok request) = request_true request
  answered_true (Err refusal) = tt

  pub reply_true : (line : List ℕ) → AnswersTruly plant state (stepped plant state line)
  reply_true line = either state.is_ended (unchanged state Silence) (answered plant state (request_of plant line)) tt (answered_true (request_of plant line))

-- by induction on the transcript
pub transcript_true : (plant : Plant) {state : SessionState} {lines : List (List ℕ)} {text : List ℕ} → IsTranscriptFrom plant state lines text → IsTrueTranscriptFrom plant state lines text
transcript_true plant ends = all_told
transcript_true plant (goes_on {state} {next} {line} {lines} {reply} {rest} {text} step others is) = told step (reply_true plant state line) (transcript_true plant others) is

pub adds_true : (plant : Plant) (session : List ℕ) (before after : Option (List ℕ)) → AddsTranscript plant session before after → AddsTrueTranscript plant session before after
adds_true plant session before after adds = record { written = adds.written; is_true = transcript_true plant adds.is_transcript; added = adds.added }
