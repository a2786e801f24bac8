-- What holds of every step of a session; and where no certificate is told, a session has exactly one transcript.
use Rattle.std.specs.Prelude.{◌≡◌, ℕ, ◌+◌, ◌<◌, Bool, true, false, List, [], ◌∷◌, ◌++◌, length, map, Option}
use Rattle.std.specs.List.{list_any, sum}
use Rattle.lv_io.specs.Whole.{AddsFront}
use Rattle.lv_text.specs.Lines.{lines_of}
use Rattle.lv_base.specs.declared.ids.VarId.{VarId}
use Rattle.lv_model.specs.declared.plant.Plant.{Plant}
use Rattle.lv_model.specs.WellFormed.{is_well_formed}
use Rattle.lv_boxes.specs.declared.outcome.Outcome.{Outcome}
use Rattle.lv_boxes.specs.declared.outcome.Outcome.TheVariants.{Settled, Unsettled}
use Rattle.lv_boxes.specs.Walk.{candidate_of}
use Rattle.lv_probe.specs.Probing.{number_with}
use Rattle.lv_reply.specs.declared.reply.Reply.{Reply}
use Rattle.lv_reply.specs.declared.reply.Reply.TheVariants.{Nothing, Refused, Certificate}
use Rattle.lv_reply.specs.Texts.{reply_text}
use Rattle.lv_session_state.specs.lv_session_request.Held.{observation_of}
use Rattle.lv_session_state.specs.lv_session_request.declared.request.Sighting.{Sighting}
use Rattle.lv_session_state.specs.lv_session_request.declared.request.Request.{Request}
use Rattle.lv_session_state.specs.lv_session_request.declared.request.Request.TheVariants.{Track, TrackDistinct, SetControl, Release, Observe, Retract, RetractAt, SetGoal, DropGoal, Diagnose, More, Commit, Reset, Window as ToWindow}
use Rattle.lv_session_state.specs.declared.query.Query.TheVariants.{Absent, Diagnosis, Recovery, Test, Window}
use Rattle.lv_session_state.specs.State.{SessionState, start, facts_of, walked, recovery, observe, testing, tracing, diagnosis_reply, recovery_reply, test_reply, window_reply}
use Rattle.lv_session.specs.Session.{is_certifiable, carried_out, stepped}
use Rattle.lv_session_state.specs.States.{IsStateOf}
use Rattle.lv_session.specs.Transcript.{IsTranscript, AddsFrontOfTranscript}

-- the replies to lines, in order
abbrev pub replies_to : Plant → SessionState → List (List ℕ) → List Reply
replies_to plant state [] = []
replies_to plant state (line ∷ lines) = (stepped plant state line).reply ∷ replies_to plant (stepped plant state line).state lines

-- the replies to a session
abbrev pub session_replies : Plant → List ℕ → List Reply
session_replies plant session = replies_to plant (start plant) (lines_of session)

abbrev pub is_certificate : Reply → Bool
is_certificate Certificate = true
is_certificate reply = false

-- one of the replies to a session is a certificate
abbrev pub tells_certificate : Plant → List ℕ → Bool
tells_certificate plant session = list_any is_certificate (session_replies plant session)

-- the texts of the replies to lines, one behind the other
abbrev pub replies : Plant → SessionState → List (List ℕ) → List ℕ
replies plant state [] = []
replies plant state (line ∷ lines) =
    reply_text plant (stepped plant state line).reply ++ replies plant (stepped plant state line).state lines

abbrev pub transcript : Plant → List ℕ → List ℕ
transcript plant session = replies plant (start plant) (lines_of session)

-- where no certificate is told, it is a transcript, and no other text is one; and what is a front of a transcript of the first lines is
-- one of it
pub record TranscriptIsOne : Type 0 where
  pub some : (plant : Plant) (session : List ℕ) → tells_certificate plant session ≡ false → IsTranscript plant session (transcript plant session)
  pub one : (plant : Plant) (session text : List ℕ) → tells_certificate plant session ≡ false → IsTranscript plant session text → text ≡ transcript plant session
  pub front : (plant : Plant) (session : List ℕ) (before after : Option (List ℕ)) → tells_certificate plant session ≡ false
      → AddsFrontOfTranscript plant session before after → AddsFront (transcript plant session) before after

abbrev pub is_refused : Reply → Bool
is_refused (Refused refusal) = true
is_refused reply = false

-- a refused line leaves the whole state as it was
abbrev pub RefusedLineChangesNothing : Type 0
RefusedLineChangesNothing = (plant : Plant) (state : SessionState) (line : List ℕ)
    → is_refused (stepped plant state line).reply ≡ true → (stepped plant state line).state ≡ state

-- the requests that change what a query would come to
abbrev pub clears : Request → Bool
clears (Track n) = true
clears (TrackDistinct n) = true
clears (SetControl c) = true
clears (Release place) = true
clears (Observe s) = true
clears (Retract name) = true
clears (RetractAt r) = true
clears (SetGoal g) = true
clears (DropGoal name) = true
clears Commit = true
clears Reset = true
clears request = false

-- where such a request is carried out no query is current
abbrev pub NoQuerySurvivesAChange : Type 0
NoQuerySurvivesAChange = (plant : Plant) (state : SessionState) (request : Request) → clears request ≡ true
    → is_refused (carried_out plant state request).reply ≡ false → (carried_out plant state request).state.query ≡ Absent

-- a query that isn't settled goes on as if it had been asked for with the sum of all its trials
pub record MoreIsTheSum : Type 0 where
  pub of_diagnosis : (plant : Plant) (state : SessionState) (sum n : ℕ) → state.query ≡ Diagnosis sum → (walked plant state sum).outcome ≡ Unsettled
      → (carried_out plant state (More n)).reply ≡ diagnosis_reply (walked plant state (sum + n))
  pub of_recovery : (plant : Plant) (state : SessionState) (sum n : ℕ) → state.query ≡ Recovery sum → (recovery plant state sum).outcome ≡ Unsettled
      → (carried_out plant state (More n)).reply ≡ recovery_reply (recovery plant state (sum + n))
  pub of_test : (plant : Plant) (state : SessionState) (x : VarId) (sum n : ℕ) → state.query ≡ Test x sum → (testing plant state x sum).outcome ≡ Unsettled
      → (carried_out plant state (More n)).reply ≡ test_reply (testing plant state x (sum + n))
  pub of_window : (plant : Plant) (state : SessionState) (steps sum n : ℕ) → state.query ≡ Window steps sum → (tracing plant state steps sum).outcome ≡ Unsettled
      → (carried_out plant state (More n)).reply ≡ window_reply steps (tracing plant state steps (sum + n))

-- the state behind a `more` line with each of these numbers
abbrev pub gone_on : Plant → SessionState → List ℕ → SessionState
gone_on plant state [] = state
gone_on plant state (n ∷ ns) = gone_on plant (carried_out plant state (More n)).state ns

-- what comes of so many trials isn't settled, nor what comes of those and the first of these numbers, and so on, but for the last
abbrev pub GoesOn : (ℕ → Outcome) → ℕ → List ℕ → Type 0
GoesOn outcome trials [] = Unit {0}
GoesOn outcome trials (n ∷ ns) = (outcome trials ≡ Unsettled) × GoesOn outcome (trials + n) ns

-- in however many slices a query's trials come, it is the query of their sum, and nothing else has changed
pub record SlicesAreTheSum : Type 0 where
  pub of_diagnosis : (plant : Plant) (state : SessionState) (first : ℕ) (ns : List ℕ) → state.query ≡ Diagnosis first
      → GoesOn (λ trials. (walked plant state trials).outcome) first ns → gone_on plant state ns ≡ record state { query = Diagnosis (first + sum ns) }
  pub of_recovery : (plant : Plant) (state : SessionState) (first : ℕ) (ns : List ℕ) → state.query ≡ Recovery first
      → GoesOn (λ trials. (recovery plant state trials).outcome) first ns → gone_on plant state ns ≡ record state { query = Recovery (first + sum ns) }
  pub of_test : (plant : Plant) (state : SessionState) (x : VarId) (first : ℕ) (ns : List ℕ) → state.query ≡ Test x first
      → GoesOn (λ trials. (testing plant state x trials).outcome) first ns → gone_on plant state ns ≡ record state { query = Test x (first + sum ns) }
  pub of_window : (plant : Plant) (state : SessionState) (steps first : ℕ) (ns : List ℕ) → state.query ≡ Window steps first
      → GoesOn (λ trials. (tracing plant state steps trials).outcome) first ns → gone_on plant state ns ≡ record state { query = Window steps (first + sum ns) }

-- the start is a state of the plant, and what any line leads to from one is one: modes and values are there, no state costs more than
-- its steps can, and all is within its limits
pub record StatesStayStates : Type 0 where
  pub start : (plant : Plant) → is_well_formed plant ≡ true → IsStateOf plant (start plant)
  pub step : (plant : Plant) (state : SessionState) (line : List ℕ) → is_well_formed plant ≡ true → IsStateOf plant state → IsStateOf plant (stepped plant state line).state

-- a certificate is told of a settled query alone, and the line changes nothing
pub record CertificateChangesNothing : Type 0 where
  pub settled : (plant : Plant) (state : SessionState) (line : List ℕ) → (stepped plant state line).reply ≡ Certificate → is_certifiable state.query plant state ≡ true
  pub stays : (plant : Plant) (state : SessionState) (line : List ℕ) → (stepped plant state line).reply ≡ Certificate → (stepped plant state line).state ≡ state

-- in an ended session a line does nothing
pub record EndedIsSilent : Type 0 where
  pub stays : (plant : Plant) (state : SessionState) (line : List ℕ) → state.is_ended ≡ true → (stepped plant state line).state ≡ state
  pub silent : (plant : Plant) (state : SessionState) (line : List ℕ) → state.is_ended ≡ true → (stepped plant state line).reply ≡ Nothing

-- where a settled diagnosis, one that may list candidates of one target, lists fewer than k, as many of the listed go with an observation as
-- a settled diagnosis lists once it is held
abbrev pub NumbersAreListed : Type 0
NumbersAreListed = (plant : Plant) (state : SessionState) (sum other : ℕ) (s : Sighting) → state.distinct ≡ false → (walked plant state sum).outcome ≡ Settled
    → length (walked plant state sum).listed < state.k → is_refused (observe state s).reply ≡ false → (walked plant (observe state s).state other).outcome ≡ Settled
    → number_with plant (facts_of state) (map candidate_of (walked plant state sum).listed) (observation_of s) ≡ length (walked plant (observe state s).state other).listed

-- without the flag a window of one step replies as a diagnosis does
abbrev pub OneStepReadsAsADiagnosis : Type 0
OneStepReadsAsADiagnosis = (plant : Plant) (state : SessionState) → state.distinct ≡ false
    → reply_text plant (carried_out plant state (ToWindow 1)).reply ≡ reply_text plant (carried_out plant state Diagnose).reply
