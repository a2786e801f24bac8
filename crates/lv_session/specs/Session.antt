-- What a line does to the state of a session, and the reply to it.
use Rattle.std.specs.Prelude.{ℕ, ◌-◌, Bool, false, true, nat_eq, List, ◌++◌, length, slice_get, if◌then◌else◌, Option, None, Some, Result, Ok, Err}
use Rattle.std.specs.Option.{option_map_or}
use Rattle.lv_base.specs.declared.rank.Rank.{Rank}
use Rattle.lv_model.specs.declared.plant.Plant.{Plant}
use Rattle.lv_model.specs.declared.state.State.{State}
use Rattle.lv_model.specs.declared.state.TrackedState.{TrackedState}
use Rattle.lv_boxes.specs.declared.outcome.Outcome.{Outcome}
use Rattle.lv_boxes.specs.declared.outcome.Outcome.TheVariants.{Settled, Unsettled}
use Rattle.lv_labels.specs.declared.labelling.Labelling.{Labelling}
use Rattle.lv_labels.specs.declared.labelling.Labelling.TheVariants as labelling
use Rattle.lv_labels.specs.Literals.{fact_literals, state_literals}
use Rattle.lv_labels.specs.Finding.{labelling}
use Rattle.lv_probe.specs.Probing.{all_probed, best}
use Rattle.lv_reply.specs.declared.reply.Refusal.{Refusal}
use Rattle.lv_reply.specs.declared.reply.Refusal.TheVariants.{OutOfLimits, NoQuery, NothingListed}
use Rattle.lv_reply.specs.declared.reply.Reply.{Reply}
use Rattle.lv_reply.specs.declared.reply.Reply.TheVariants.{Nothing as Silence, Refused, States as StatesReply, Labels as LabelsReply, Contradiction, Certificate as CertificateReply, Probed as ProbedReply}
use Rattle.lv_session_state.specs.lv_session_request.declared.request.Request.{Request}
use Rattle.lv_session_state.specs.lv_session_request.declared.request.Request.TheVariants.{Nothing, Track, TrackDistinct, SetBudget, SetControl, Release, Observe, Retract, RetractAt, SetGoal, DropGoal, Diagnose, Recover, More, Commit, Conflicts, Certificate, Labels, LabelsFrom, States, Reset, Quit, Probe, Test as ToTest, Window as ToWindow}
use Rattle.lv_session_state.specs.lv_session_request.Requests.{request_of}
use Rattle.lv_session_state.specs.declared.query.Query.{Query}
use Rattle.lv_session_state.specs.declared.query.Query.TheVariants.{Absent, Diagnosis, Recovery, Test, Window}
use Rattle.lv_session_state.specs.Times.{retract_at}
use Rattle.lv_session_state.specs.State.{SessionState, facts_of, walked, recovery, Stepped, unchanged, track, set_budget, set_control, release, observe, retract, set_goal, drop_goal, diagnosed, tested, look_back, recover, more, conflicts, is_settled_by, commit, reset, quit}

-- a query is current of which there are certificates: one that is settled, and no test or window
abbrev pub is_certifiable : Query → Plant → SessionState → Bool
is_certifiable Absent plant state = false
is_certifiable (Diagnosis sum) plant state = is_settled_by (walked plant state sum).outcome
is_certifiable (Recovery sum) plant state = is_settled_by (recovery plant state sum).outcome
is_certifiable (Test x sum) plant state = false
is_certifiable (Window steps sum) plant state = false

-- `certificate`: one of the current query, which has to be settled, and no test or window
abbrev pub certificate : Query → Plant → SessionState → Stepped
certificate q plant state = if is_certifiable q plant state then unchanged state CertificateReply else unchanged state (Refused NoQuery)

-- what one observation more would leave of these candidates
abbrev pub probed_reply : Plant → SessionState → List Rank → Reply
probed_reply plant state listed =
    ProbedReply (length listed) (all_probed plant (facts_of state) listed) (best (length listed) (all_probed plant (facts_of state) listed))

abbrev pub probed : Plant → SessionState → List Rank → Stepped
probed plant state listed = if nat_eq (length listed) 0 then unchanged state (Refused NothingListed) else unchanged state (probed_reply plant state listed)

abbrev pub probe_by : Outcome → Plant → SessionState → List Rank → Stepped
probe_by Settled plant state listed = probed plant state listed
probe_by Unsettled plant state listed = unchanged state (Refused NoQuery)

-- `probe`: of a settled diagnosis that is current, which has to list something
abbrev pub probe : Query → Plant → SessionState → Stepped
probe Absent plant state = unchanged state (Refused NoQuery)
probe (Diagnosis sum) plant state = probe_by (walked plant state sum).outcome plant state (walked plant state sum).listed
probe (Recovery sum) plant state = unchanged state (Refused NoQuery)
probe (Test x sum) plant state = unchanged state (Refused NoQuery)
probe (Window steps sum) plant state = unchanged state (Refused NoQuery)

-- what propagation finds, as a reply
abbrev pub labels_reply : Labelling → Reply
labels_reply labelling.Contradiction = Contradiction
labels_reply (labelling.Labels labels) = LabelsReply labels

-- `labels`: what propagation finds under the facts and, if a state is given, its modes
abbrev pub labelled : Plant → SessionState → Option State → Stepped
labelled plant state of = unchanged state (labels_reply (labelling plant (fact_literals plant (facts_of state) ++ state_literals plant of)))

-- the same from the tracked state of this number, counted from 1
abbrev pub labelled_from : Plant → SessionState → ℕ → Stepped
labelled_from plant state n =
    option_map_or (λ (s : TrackedState). labelled plant state (Some s.state)) (slice_get state.tracked (n - 1)) (unchanged state (Refused OutOfLimits))

-- what a request does, and the reply to it
abbrev pub carried_out : Plant → SessionState → Request → Stepped
carried_out plant state Nothing = unchanged state Silence
carried_out plant state (Track n) = track state n false
carried_out plant state (TrackDistinct n) = track state n true
carried_out plant state (SetBudget n) = set_budget state n
carried_out plant state (SetControl c) = set_control state c
carried_out plant state (Release place) = release state place
carried_out plant state (Observe s) = observe state s
carried_out plant state (Retract name) = retract state name
carried_out plant state (RetractAt r) = retract_at state r
carried_out plant state (SetGoal g) = set_goal state g
carried_out plant state (DropGoal name) = drop_goal state name
carried_out plant state Diagnose = diagnosed plant state state.budget
carried_out plant state Recover = recover plant state
carried_out plant state (More n) = more state.query plant state n
carried_out plant state Commit = commit state.query plant state
carried_out plant state Conflicts = conflicts state.query plant state
carried_out plant state Certificate = certificate state.query plant state
carried_out plant state Labels = labelled plant state None
carried_out plant state (LabelsFrom n) = labelled_from plant state n
carried_out plant state States = unchanged state (StatesReply state.time state.tracked)
carried_out plant state Reset = reset plant
carried_out plant state Quit = quit state
carried_out plant state Probe = probe state.query plant state
carried_out plant state (ToTest x) = tested plant state x state.budget
carried_out plant state (ToWindow steps) = look_back plant state steps

-- a refused line leaves the whole state
abbrev pub answered : Plant → SessionState → Result Request Refusal → Stepped
answered plant state (Ok request) = carried_out plant state request
answered plant state (Err refusal) = unchanged state (Refused refusal)

-- what a line does, and the reply to it; in an ended session it does nothing
abbrev pub stepped : Plant → SessionState → List ℕ → Stepped
stepped plant state line = if state.is_ended then unchanged state Silence else answered plant state (request_of plant line)

-- a session over a plant, as it stands; once memory was wanting, it answers nothing else
pub record RunningSession : Type 0 where
  pub plant : Plant
  pub state : SessionState
  pub is_out_of_memory : Bool
