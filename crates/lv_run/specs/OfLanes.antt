-- What is written of sessions in lanes, and what of it belongs to each lane.
use Rattle.std.specs.Prelude.{◌≡◌, ℕ, true, List, Option}
use Rattle.std.specs.Io.KnownBytes.{append_known}
use Rattle.std.specs.List.{list_all}
use Rattle.lv_run_words.specs.lv_text.Bytes.{is_word_byte}
use Rattle.lv_run_words.specs.lv_text.Lines.{lines_of}
use Rattle.lv_model.specs.declared.plant.Plant.{Plant}
use Rattle.lv_lanes.specs.declared.reply.LaneReply.{LaneReply}
use Rattle.lv_lanes.specs.Bytes.{own_part, is_whole}
use Rattle.lv_lanes.specs.Laws.{MayReplyInOrder, own_lines, own_text, all_text}
use Rattle.lv_plant.specs.lv_session.Session.{RunningSession}
use Rattle.lv_plant.specs.lv_session.lv_session_state.State.{start}
use Rattle.lv_plant.specs.lv_session.Transcript.{IsTranscriptFrom}
use Rattle.lv_plant.specs.lv_session.Answering.{next_at, SaysAt, begun_again, is_open}
use Rattle.lv_run.specs.Services.{lanes_begun}

-- a lane's own lines: those that are handed to it, and `more` for each turn at which its query was unsettled
abbrev pub lines_of_lane : Plant → List ℕ → List ℕ → List (List ℕ)
lines_of_lane plant name text = own_lines next_at begun_again is_open name (lanes_begun plant) (lines_of text)

-- the texts of replies to the lines, one to each in order, were added; and what belongs to each lane, its names taken off, is the transcript
-- of the lane's own session over its own lines
pub record AddsLanes (plant : Plant) (text : List ℕ) (before after : Option (List ℕ)) : Type 0 where
  pub replies : List LaneReply
  pub in_order : MayReplyInOrder next_at SaysAt begun_again is_open (lanes_begun plant) (lines_of text) replies
  pub alone : (name : List ℕ) → IsTranscriptFrom plant (start plant) (lines_of_lane plant name text) (own_text name replies)
  pub added : after ≡ append_known before (all_text replies)

-- bytes were added of which, for each name, the lines that begin with `@NAME `, that taken off, are the transcript of the lane's own session
-- over its own lines
pub record AddsOwnParts (plant : Plant) (text : List ℕ) (before after : Option (List ℕ)) : Type 0 where
  pub written : List ℕ
  pub alone : (name : List ℕ) → list_all is_word_byte name ≡ true → IsTranscriptFrom plant (start plant) (lines_of_lane plant name text) (own_part name written)
  pub added : after ≡ append_known before written

-- each text that a session may reply, a certificate's too, is empty or ends with a line feed
abbrev pub RepliesAreWhole : Type 0
RepliesAreWhole = (s : RunningSession) (line text : List ℕ) → SaysAt s line text → is_whole text ≡ true
