-- What may be replied to a line, and the text of a reply.
use Rattle.std.specs.Prelude.{ℕ, ◌≡◌, ◌++◌, List, [], ◌∷◌, Bool, true, false, nat_eq, codes, if◌then◌else◌, Option, Some, None}
use Rattle.lv_lanes.specs.declared.fault.LaneFault.{LaneFault}
use Rattle.lv_lanes.specs.declared.fault.LaneFault.TheVariants.{LongLine, NoForm, NoLane, OutOfLimits}
use Rattle.lv_lanes.specs.declared.reply.LaneText.{LaneText}
use Rattle.lv_lanes.specs.declared.reply.LaneReply.{LaneReply}
use Rattle.lv_lanes.specs.declared.reply.LaneReply.TheVariants.{Refused, Replied}
use Rattle.lv_lanes.specs.Standing.{Errand, Work, is_refused, errands, Standing, work_of, handed, lane_of}
use Rattle.lv_lanes.specs.declared.named.Named.{Named}

module _ {S : Type 0} (says : S → List ℕ → List ℕ → Type 0) where
  -- these are replies to these errands, one to each in order: each has the lane's name, and a text that it may reply
  pub data AreReplies : List (Errand S) → List LaneText → Type 0 where
    no_errands : AreReplies [] []
    one_more : {errand : Errand S} {errands : List (Errand S)} {reply : LaneText} {replies : List LaneText}
        → reply.name ≡ errand.name
        → says errand.lane errand.line reply.text
        → AreReplies errands replies
        → AreReplies (errand ∷ errands) (reply ∷ replies)

  -- a line was handed on to the lane of a name, which has a place or not; where it has none nothing has changed
  abbrev pub IsHandedOn : (S → List ℕ → S) → Bool → List ℕ → List ℕ → S → List (Named S) → List (Named S) → Option (List ℕ) → Type 0
  IsHandedOn next there name line start old new None = (there ≡ false) × (new ≡ old)
  IsHandedOn next there name line start old new (Some text) =
      (there ≡ true) × (new ≡ handed next name line start old) × says (lane_of name start old) line text

  -- this may be replied where that is to be done
  abbrev pub MayReply : Work S → LaneReply → Type 0
  MayReply (is_refused fault) (Refused told) = told ≡ fault
  MayReply (is_refused fault) (Replied replies) = ⊥
  MayReply (errands todo) (Refused told) = ⊥
  MayReply (errands todo) (Replied replies) = AreReplies todo replies

-- the number of a refusal's code, as its digit
abbrev pub fault_digit : LaneFault → ℕ
fault_digit NoForm = 49
fault_digit NoLane = 50
fault_digit OutOfLimits = 51
fault_digit LongLine = 52

-- a text with a front before each of its lines, from where a line begins or not
abbrev pub fronted : List ℕ → Bool → List ℕ → List ℕ
fronted front begins [] = []
fronted front begins (b ∷ text) = (if begins then front else []) ++ b ∷ fronted front (nat_eq b 10) text

-- what stands before each line of a lane's text
abbrev pub lane_front : List ℕ → List ℕ
lane_front name = codes "@" ++ name ++ codes " "

abbrev pub lane_text : LaneText → List ℕ
lane_text reply = fronted (lane_front reply.name) true reply.text

abbrev pub lane_texts : List LaneText → List ℕ
lane_texts [] = []
lane_texts (reply ∷ replies) = lane_text reply ++ lane_texts replies

abbrev pub reply_text : LaneReply → List ℕ
reply_text (Refused fault) = codes "error L0" ++ fault_digit fault ∷ 10 ∷ []
reply_text (Replied replies) = lane_texts replies

-- this text may be written for a line: it is the text of what may be replied
pub record MayWrite {S : Type 0} (says : S → List ℕ → List ℕ → Type 0) (start : S → S) (is_open : S → Bool) (s : Standing S) (line text : List ℕ) : Type 0 where
  pub reply : LaneReply
  pub may_reply : MayReply says (work_of start is_open s line) reply
  pub is_text : text ≡ reply_text reply
