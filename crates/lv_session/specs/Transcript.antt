-- Transcripts: the texts of the replies to a session's lines, one behind the other. Which text may stand for a reply is
-- a relation, and so are the step of a session and its transcript.
use Rattle.std.specs.Prelude.{◌≡◌, ℕ, List, [], ◌∷◌, ◌++◌, take, Option}
use Rattle.std.specs.Io.KnownBytes.{append_known}
use Rattle.lv_io.specs.Whole.{AddsFront}
use Rattle.lv_text.specs.Lines.{lines_of}
use Rattle.lv_model.specs.declared.plant.Plant.{Plant}
use Rattle.lv_session_state.specs.State.{SessionState, start}
use Rattle.lv_session.specs.Session.{stepped}
use Rattle.lv_session.specs.Certificates.{IsTextOf}

-- a line takes the session from one state to the next, and this text may be its reply
pub record SessionStep (plant : Plant) (state : SessionState) (line : List ℕ) (next : SessionState) (text : List ℕ) : Type 0 where
  pub goes : next ≡ (stepped plant state line).state
  pub says : IsTextOf plant next (stepped plant state line).reply text

-- the text is a transcript of these lines, from a state on: no text where there are none; else a reply to the first, and
-- behind it a transcript of the others from the state that the first leads to
pub data IsTranscriptFrom (plant : Plant) : SessionState → List (List ℕ) → List ℕ → Type 0 where
  ends : {state : SessionState} → IsTranscriptFrom plant state [] []
  goes_on : {state next : SessionState} {line : List ℕ} {lines : List (List ℕ)} {reply rest text : List ℕ}
      → SessionStep plant state line next reply
      → IsTranscriptFrom plant next lines rest
      → text ≡ reply ++ rest
      → IsTranscriptFrom plant state (line ∷ lines) text

-- the text is a transcript of the session
abbrev pub IsTranscript : Plant → List ℕ → List ℕ → Type 0
IsTranscript plant session text = IsTranscriptFrom plant (start plant) (lines_of session) text

-- a transcript of these lines was added to the text
pub record AddsTranscriptFrom (plant : Plant) (state : SessionState) (lines : List (List ℕ)) (before after : Option (List ℕ)) : Type 0 where
  pub written : List ℕ
  pub is_transcript : IsTranscriptFrom plant state lines written
  pub added : after ≡ append_known before written

-- a front of a transcript of the first of these lines, so many, was added to the text
pub record AddsTranscriptFront (plant : Plant) (state : SessionState) (lines : List (List ℕ)) (before after : Option (List ℕ)) : Type 0 where
  pub answered : ℕ
  pub whole : List ℕ
  pub is_transcript : IsTranscriptFrom plant state (take answered lines) whole
  pub front : AddsFront whole before after

-- the same of a whole session
abbrev pub AddsTranscript : Plant → List ℕ → Option (List ℕ) → Option (List ℕ) → Type 0
AddsTranscript plant session before after = AddsTranscriptFrom plant (start plant) (lines_of session) before after

abbrev pub AddsFrontOfTranscript : Plant → List ℕ → Option (List ℕ) → Option (List ℕ) → Type 0
AddsFrontOfTranscript plant session before after = AddsTranscriptFront plant (start plant) (lines_of session) before after
