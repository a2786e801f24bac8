-- What belongs to one lane, and that it is a conversation of that lane's own.
use Rattle.std.specs.Prelude.{ℕ, ◌≡◌, ◌++◌, List, [], ◌∷◌, Bool, false, if◌then◌else◌}
use Rattle.lv_base.specs.Names.{is_named}
use Rattle.lv_serve.specs.Conversation.{IsConversation}
use Rattle.lv_lanes.specs.declared.reply.LaneText.{LaneText}
use Rattle.lv_lanes.specs.declared.reply.LaneReply.{LaneReply}
use Rattle.lv_lanes.specs.declared.reply.LaneReply.TheVariants.{Refused, Replied}
use Rattle.lv_lanes.specs.Standing.{Errand, Work, is_refused, errands, Standing, work_of, stepped}
use Rattle.lv_lanes.specs.Replies.{MayReply, MayWrite, reply_text}

-- no lanes yet
abbrev pub at_start : {S : Type 0} → S → Standing S
at_start first = record { first = first; lanes = []; is_out_of_memory = false }

module _ {S : Type 0} where
  -- the lines that go to the lane of a name
  abbrev pub lines_to : List ℕ → List (Errand S) → List (List ℕ)
  lines_to name [] = []
  lines_to name (errand ∷ todo) = if is_named name errand.name then errand.line ∷ lines_to name todo else lines_to name todo

  abbrev pub handed_to : List ℕ → Work S → List (List ℕ)
  handed_to name (is_refused fault) = []
  handed_to name (errands todo) = lines_to name todo

-- the texts that the lane of a name replied, one behind the other
abbrev pub text_in : List ℕ → List LaneText → List ℕ
text_in name [] = []
text_in name (reply ∷ replies) = if is_named name reply.name then reply.text ++ text_in name replies else text_in name replies

abbrev pub text_of : List ℕ → LaneReply → List ℕ
text_of name (Refused fault) = []
text_of name (Replied replies) = text_in name replies

abbrev pub own_text : List ℕ → List LaneReply → List ℕ
own_text name [] = []
own_text name (reply ∷ replies) = text_of name reply ++ own_text name replies

-- all that is written
abbrev pub all_text : List LaneReply → List ℕ
all_text [] = []
all_text (reply ∷ replies) = reply_text reply ++ all_text replies

module _ {S : Type 0} (next : S → List ℕ → S) (start : S → S) (is_open : S → Bool) where
  -- a lane's own lines: those that are handed to it, and `more` for each turn at which its query was unsettled
  abbrev pub own_lines : List ℕ → Standing S → List (List ℕ) → List (List ℕ)
  own_lines name s [] = []
  own_lines name s (line ∷ lines) = handed_to name (work_of start is_open s line) ++ own_lines name (stepped next start is_open s line) lines

module _ {S : Type 0} (next : S → List ℕ → S) (says : S → List ℕ → List ℕ → Type 0) (start : S → S) (is_open : S → Bool) where
  -- these may be replied to these lines, one to each in order
  pub data MayReplyInOrder : Standing S → List (List ℕ) → List LaneReply → Type 0 where
    all_replied : {s : Standing S} → MayReplyInOrder s [] []
    first_replied : {s : Standing S} {line : List ℕ} {lines : List (List ℕ)} {reply : LaneReply} {replies : List LaneReply}
        → MayReply says (work_of start is_open s line) reply
        → MayReplyInOrder (stepped next start is_open s line) lines replies
        → MayReplyInOrder s (line ∷ lines) (reply ∷ replies)

  -- each lane's text is a conversation of its own over its own lines
  abbrev pub EachIsAlone : Type 0
  EachIsAlone = (name : List ℕ) (first : S) (lines : List (List ℕ)) (replies : List LaneReply)
      → MayReplyInOrder (at_start first) lines replies
      → IsConversation next says (start first) (own_lines next start is_open name (at_start first) lines) (own_text name replies)

  -- a text is that of replies to these lines, in order, in which each lane is alone
  pub record IsOfLanes (first : S) (lines : List (List ℕ)) (text : List ℕ) : Type 0 where
    pub replies : List LaneReply
    pub in_order : MayReplyInOrder (at_start first) lines replies
    pub all : text ≡ all_text replies
    pub alone : (name : List ℕ) → IsConversation next says (start first) (own_lines next start is_open name (at_start first) lines) (own_text name replies)

  -- so is all that is written of lines
  abbrev pub WrittenIsOfLanes : Type 0
  WrittenIsOfLanes = (first : S) (lines : List (List ℕ)) (text : List ℕ)
      → IsConversation (stepped next start is_open) (MayWrite says start is_open) (at_start first) lines text
      → IsOfLanes first lines text
