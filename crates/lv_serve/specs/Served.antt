-- What it is to serve a session of which some bytes were read, whatever the pieces in which they came and whatever answers its
-- lines.
use Rattle.std.specs.Prelude.{◌≡◌, ℕ, ◌≤◌, ◌+◌, Bool, true, false, ◌||◌, nat_le, List, [], ◌∷◌, length, take, Option, Result, Ok, Err}
use Rattle.std.specs.Io.KnownBytes.{prepend_known, IsAtEnd}
use Rattle.lv_base.specs.declared.limits.TheConstants.{SESSION_BYTES}
use Rattle.lv_text.specs.Lines.{lines_of}
use Rattle.lv_serve.specs.Conversation.{after_lines, AddsConversation, AddsConversationFront}
use Rattle.lv_serve.specs.Ends.{ended}
use Rattle.lv_serve.specs.declared.fault.ServeFault.{ServeFault}
use Rattle.lv_serve.specs.declared.fault.ServeFault.TheVariants.{Read, Write, TooLong, Memory}

-- the lines of a session that end within its limit
abbrev pub within_limit : List ℕ → List ℕ
within_limit session = ended (take SESSION_BYTES session)

module _ {S : Type 0} (next : S → List ℕ → S) where
  -- where the lines of a text that have ended lead to
  abbrev pub at_text : S → List ℕ → S
  at_text start text = after_lines next start (lines_of (ended text))

  module _ (has_ended : S → Bool) where
    -- the lines of a text that have ended end the conversation
    abbrev pub quits : S → List ℕ → Bool
    quits start text = has_ended (at_text start text)

    -- the session is no longer than its limit, or a line that ends the conversation ends within it
    abbrev pub fits : S → List ℕ → Bool
    fits start session = nat_le (length session) SESSION_BYTES || quits start (take SESSION_BYTES session)

module _ {S : Type 0} (next : S → List ℕ → S) (says : S → List ℕ → List ℕ → Type 0) where
  -- what is written of a whole session was added to the text
  abbrev pub AddsReplies : S → List ℕ → Option (List ℕ) → Option (List ℕ) → Type 0
  AddsReplies start session before after = AddsConversation next says start (lines_of session) before after

  -- a front of what is written of the first of its lines was
  abbrev pub AddsFrontOfReplies : S → List ℕ → Option (List ℕ) → Option (List ℕ) → Type 0
  AddsFrontOfReplies start session before after = AddsConversationFront next says start (lines_of session) before after

module _ {S : Type 0} (next : S → List ℕ → S) (says : S → List ℕ → List ℕ → Type 0) (has_ended : S → Bool) (start : S)
    (rest rest_after out out_after : Option (List ℕ)) where
  -- the lines of a whole session of which these bytes were read: all where it was read to its end; and once the conversation has ended
  -- those that have ended, whatever stands behind them
  pub data IsWhole (read : List ℕ) : List ℕ → Type 0 where
    at_end : IsAtEnd rest_after → IsWhole read read
    at_quit : quits next has_ended start read ≡ true → IsWhole read (ended read)

  -- the session was read to its end, or to the piece in which the line stands that ends the conversation, and what its lines come to was
  -- written
  pub record ServesAll : Type 0 where
    pub read : List ℕ
    pub taken : rest ≡ prepend_known read rest_after
    pub within : length read ≤ SESSION_BYTES
    pub due : List ℕ
    pub is_whole : IsWhole read due
    pub written : AddsReplies next says start due out out_after

  -- these bytes were read, the lines that ended in them don't end the conversation, and the replies to these were written
  pub record ServesLines : Type 0 where
    pub read : List ℕ
    pub taken : rest ≡ prepend_known read rest_after
    pub within : length read ≤ SESSION_BYTES
    pub goes_on : quits next has_ended start read ≡ false
    pub written : AddsReplies next says start (ended read) out out_after

  -- one byte more than the limit was read, the conversation didn't end within the limit, and the replies to the lines that ended
  -- within it were written
  pub record ServesLimit : Type 0 where
    pub read : List ℕ
    pub taken : rest ≡ prepend_known read rest_after
    pub beyond : length read ≡ SESSION_BYTES + 1
    pub goes_on : quits next has_ended start (take SESSION_BYTES read) ≡ false
    pub written : AddsReplies next says start (within_limit read) out out_after

  -- the lines due of what was read: those that have ended, and at the end of the session all
  pub data IsDue (read : List ℕ) : List ℕ → Type 0 where
    ended_lines : IsDue read (ended read)
    all_lines : IsAtEnd rest_after → IsDue read read

  -- a front of the replies to the lines due was written
  pub record ServesFront : Type 0 where
    pub read : List ℕ
    pub taken : rest ≡ prepend_known read rest_after
    pub within : length read ≤ SESSION_BYTES
    pub due : List ℕ
    pub is_due : IsDue read due
    pub front : AddsFrontOfReplies next says start due out out_after

  -- what was read and written, by how the serving ended
  abbrev pub Serves : {T : Type 0} → Result T ServeFault → Type 0
  Serves (Ok x) = ServesAll
  Serves (Err Read) = ServesLines
  Serves (Err TooLong) = ServesLimit
  Serves (Err Write) = ServesFront
  Serves (Err Memory) = ServesFront
