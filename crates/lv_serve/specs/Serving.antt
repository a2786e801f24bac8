-- How far a serving has come.
use Rattle.std.specs.Prelude.{◌≡◌, ℕ, List, [], ◌++◌, Option}
use Rattle.std.specs.Io.KnownBytes.{append_known}
use Rattle.lv_io.specs.Whole.{AddsFront}
use Rattle.lv_text.specs.Lines.{lines_of}
use Rattle.lv_serve.specs.Conversation.{IsConversation}
use Rattle.lv_serve.specs.Ends.{ended, unended}
use Rattle.lv_serve.specs.declared.serving.Serving.{Serving}
use Rattle.lv_serve.specs.Unfinished.{kept_of, shown}
use Rattle.lv_serve.specs.Served.{at_text}

module _ {S : Type 0} (next : S → List ℕ → S) (says : S → List ℕ → List ℕ → Type 0) where
  -- what was written since, with the replies that wait behind it, is a conversation of these lines
  pub record Waits (start : S) (lines : List (List ℕ)) (before : Option (List ℕ)) (replies : List ℕ) (text : Option (List ℕ)) : Type 0 where
    pub written : List ℕ
    pub added : text ≡ append_known before written
    pub is_conversation : IsConversation next says start lines (written ++ replies)

  -- where a serving stands once these bytes have come: the lines that have ended are carried out and their replies written or
  -- waiting, and of the last the front is kept
  pub record StandsAt (start : S) (read : List ℕ) (before : Option (List ℕ)) (now : Serving S) (text : Option (List ℕ)) : Type 0 where
    pub at_is : now.at ≡ at_text next start read
    pub line_is : now.line ≡ kept_of (unended read)
    pub waits : Waits start (lines_of (ended read)) before now.replies text

  -- where the line that has come leads to
  abbrev pub line_next : Serving S → S
  line_next s = next s.at (shown s.line)

  -- the text may be the reply to it
  abbrev pub IsLineReply : Serving S → List ℕ → Type 0
  IsLineReply s text = says s.at (shown s.line) text

  -- the line was carried out, and its reply put behind those that wait
  pub record IsReplied (old new : Serving S) : Type 0 where
    pub at_is : new.at ≡ line_next old
    pub line_is : new.line ≡ kept_of []
    pub reply : List ℕ
    pub says_it : IsLineReply old reply
    pub joined : new.replies ≡ old.replies ++ reply

  -- the line that has come is answered: its reply came behind those that waited, of which a front may have been written
  pub record IsAnswered (old new : Serving S) (before after : Option (List ℕ)) : Type 0 where
    pub at_is : new.at ≡ line_next old
    pub line_is : new.line ≡ kept_of []
    pub reply : List ℕ
    pub says_it : IsLineReply old reply
    pub handed : List ℕ
    pub added : after ≡ append_known before handed
    pub joined : handed ++ new.replies ≡ old.replies ++ reply

  -- the line that has come could not be answered, or its reply not be written: a front was written of the replies that waited, or of
  -- those and a reply to it
  pub data IsCutOff (old : Serving S) (before after : Option (List ℕ)) : Type 0 where
    before_reply : AddsFront old.replies before after → IsCutOff old before after
    in_reply : (reply : List ℕ) → IsLineReply old reply → AddsFront (old.replies ++ reply) before after → IsCutOff old before after

-- the same, had this line come and been kept
abbrev pub with_line : {S : Type 0} → List ℕ → Serving S → Serving S
with_line line s = record s { line = kept_of line }

-- a front of the replies that waited was written, or all
pub record IsHandedOn {S : Type 0} (old new : Serving S) (before after : Option (List ℕ)) : Type 0 where
  pub at_is : new.at ≡ old.at
  pub line_is : new.line ≡ old.line
  pub handed : List ℕ
  pub added : after ≡ append_known before handed
  pub joined : handed ++ new.replies ≡ old.replies
