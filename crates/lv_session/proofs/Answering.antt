-- What a session answers, as a conversation and as a transcript.
use Rattle.std.proofs.Common.{ℕ, false, List, [], ◌∷◌, ◌++◌, Option, refl, subst}
use Rattle.lv_text.specs.Lines.{lines_of}
use Rattle.lv_model.specs.declared.plant.Plant.{Plant}
use Rattle.lv_serve.specs.Conversation.{IsConversation, ends as ends_lines, goes_on as goes_on_with}
use Rattle.lv_serve.specs.Served.{AddsReplies, AddsFrontOfReplies}
use Rattle.lv_serve.specs.Ends.{ended}
use Rattle.lv_serve.proofs.Writing.{whole_front}
use Rattle.lv_serve.proofs.ConversationLemmas.{none_of_front, front_of_lines}
use Rattle.lv_serve.proofs.PieceLemmas.{front_of_all, front_of_longer}
use Rattle.lv_session_state.specs.State.{SessionState}
use Rattle.lv_session.specs.Session.{RunningSession, stepped}
use Rattle.lv_session.specs.Certificates.{IsTextOf}
use Rattle.lv_session.specs.Transcript.{IsTranscriptFrom, ends, goes_on, AddsTranscript, AddsFrontOfTranscript}
use Rattle.lv_session.specs.Answering.{begun, next_at, SaysAt}

-- what is written of a session's lines is a transcript of them
pub transcript_of : (s : RunningSession) (lines : List (List ℕ)) (text : List ℕ)
    → IsConversation next_at SaysAt s lines text → IsTranscriptFrom s.plant s.state lines text
transcript_of s [] text ends_lines = ends
transcript_of s (line ∷ lines) text (goes_on_with {reply} {rest} says later joined) =
    goes_on {state = s.state} {next = (stepped s.plant s.state line).state} {line = line} {reply = reply} {rest = rest} (record { goes = refl; says = says })
    (transcript_of (next_at s line) lines rest later) joined

pub adds_transcript : (plant : Plant) (session : List ℕ) (before after : Option (List ℕ))
    → AddsReplies next_at SaysAt (begun plant) session before after → AddsTranscript plant session before after
adds_transcript plant session before after adds = record {
  written = adds.written;
  is_transcript = transcript_of (begun plant) (lines_of session) adds.written adds.is_conversation;
  added = adds.added;
}

pub adds_front : (plant : Plant) (session : List ℕ) (before after : Option (List ℕ))
    → AddsFrontOfReplies next_at SaysAt (begun plant) session before after → AddsFrontOfTranscript plant session before after
adds_front plant session before after adds = record {
  answered = adds.answered;
  whole = adds.whole;
  is_transcript = transcript_of (begun plant) _ adds.whole adds.is_conversation;
  front = adds.front;
}

-- and a transcript of lines is what may be written of them
pub conversation_of : (plant : Plant) (state : SessionState) (lines : List (List ℕ)) (text : List ℕ)
    → IsTranscriptFrom plant state lines text → IsConversation next_at SaysAt (record { plant = plant; state = state; is_out_of_memory = false }) lines text
conversation_of plant state [] text ends = ends_lines
conversation_of plant state (line ∷ lines) text (goes_on {next} {reply} {rest} step later joined) =
    goes_on_with {reply = reply} {rest = rest}
    (subst (λ (s : SessionState). IsTextOf plant s (stepped plant state line).reply reply) step.goes step.says)
    (subst (λ (s : SessionState). IsConversation next_at SaysAt (record { plant = plant; state = s; is_out_of_memory = false }) lines rest) step.goes
    (conversation_of plant next lines rest later)) joined

replies_front : (plant : Plant) (session : List ℕ) (before after : Option (List ℕ))
    → AddsFrontOfTranscript plant session before after → AddsFrontOfReplies next_at SaysAt (begun plant) session before after
replies_front plant session before after adds = record {
  answered = adds.answered;
  whole = adds.whole;
  is_conversation = conversation_of plant (begun plant).state _ adds.whole adds.is_transcript;
  front = adds.front;
}

-- nothing is a front of any transcript, and a transcript one of itself
pub no_transcript : (plant : Plant) (session : List ℕ) (text : Option (List ℕ)) → AddsFrontOfTranscript plant session text text
no_transcript plant session text = adds_front plant session text text (none_of_front next_at SaysAt (begun plant) (lines_of session) text)

pub transcript_front : (plant : Plant) (session : List ℕ) (before after : Option (List ℕ)) → AddsTranscript plant session before after → AddsFrontOfTranscript plant session before after
transcript_front plant session before after all = adds_front plant session before after
    (front_of_lines next_at SaysAt (begun plant) (lines_of session) all.written before after
    (conversation_of plant (begun plant).state (lines_of session) all.written all.is_transcript) (whole_front all.written before after all.added))

-- a front of what was due of the lines that have ended is one of what is due of a longer text
pub transcript_of_longer : (plant : Plant) (read more : List ℕ) (before after : Option (List ℕ))
    → AddsFrontOfTranscript plant (ended read) before after → AddsFrontOfTranscript plant (ended (read ++ more)) before after
transcript_of_longer plant read more before after front =
    adds_front plant (ended (read ++ more)) before after (front_of_longer next_at SaysAt (begun plant) read more before after (replies_front plant (ended read) before after front))

pub transcript_of_more : (plant : Plant) (read more : List ℕ) (before after : Option (List ℕ))
    → AddsFrontOfTranscript plant (ended read) before after → AddsFrontOfTranscript plant (read ++ more) before after
transcript_of_more plant read more before after front =
    adds_front plant (read ++ more) before after (front_of_all next_at SaysAt (begun plant) read more before after (replies_front plant (ended read) before after front))
