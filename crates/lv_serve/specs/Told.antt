-- What serving a session comes to where the shelf tells its text.
use Rattle.std.specs.Prelude.{◌≡◌, ℕ, ◌≤◌, Bool, true, false, List, length, take, Option, Result, Ok, Err}
use Rattle.lv_base.specs.declared.limits.TheConstants.{SESSION_BYTES}
use Rattle.lv_serve.specs.Ends.{ended}
use Rattle.lv_serve.specs.Served.{within_limit, fits, quits, AddsReplies, AddsFrontOfReplies}
use Rattle.lv_serve.specs.declared.fault.ServeFault.{ServeFault}
use Rattle.lv_serve.specs.declared.fault.ServeFault.TheVariants.{Read, Write, TooLong, Memory}

module _ {S : Type 0} (next : S → List ℕ → S) (says : S → List ℕ → List ℕ → Type 0) (has_ended : S → Bool) (start : S)
    (session : List ℕ) (before after : Option (List ℕ)) where
  -- so many bytes of the session were read, the lines that ended in them don't end the conversation, and the replies to these were added
  pub record AddsRead : Type 0 where
    pub count : ℕ
    pub within : count ≤ SESSION_BYTES
    pub goes_on : quits next has_ended start (take count session) ≡ false
    pub written : AddsReplies next says start (ended (take count session)) before after

  -- a front was added of what is due: of the replies to the session, or to its lines that end within the limit
  pub record AddsDue : Type 0 where
    pub of_all : fits next has_ended start session ≡ true → AddsFrontOfReplies next says start session before after
    pub of_lines : fits next has_ended start session ≡ false → AddsFrontOfReplies next says start (within_limit session) before after

  -- by how the serving ended
  abbrev pub ServesText : {T : Type 0} → Result T ServeFault → Type 0
  ServesText (Ok x) = (fits next has_ended start session ≡ true) × AddsReplies next says start session before after
  ServesText (Err Read) = AddsRead
  ServesText (Err Write) = AddsDue
  ServesText (Err TooLong) = (fits next has_ended start session ≡ false) × AddsReplies next says start (within_limit session) before after
  ServesText (Err Memory) = AddsDue
