-- Words of the contracts of shelves and sinks: what an open records, what a read gives, and what ties
-- a fault to its count. What is not told is `None`, and then nothing is claimed of the bytes.
use Rattle.std.specs.Prelude.{◌≡◌, ℕ, ◌<◌, ◌≤◌, ◌⊎◌, Bool, List, [], ◌∷◌, ◌++◌, length, take, Option, Result, Ok, Err, ◌&&◌, ◌==◌}
use Rattle.std.specs.Io.KnownBytes.{prepend_known, append_known, IsAtEnd}
use Rattle.lv_io.specs.declared.Role.{Role}
use Rattle.lv_io.specs.declared.Slot.{Slot}
use Rattle.lv_io.specs.declared.IoFault.{IoFault}
use Rattle.lv_io.specs.declared.IoFault.TheVariants.{Failed, Memory}
use Rattle.lv_io.specs.Limits.{last_count}

-- one open that was made: the role that it was made for, and the bytes of the name
pub record Opened : Type 0 where
  pub role : Role
  pub name : List ℕ

-- the opens after one more with this answer: want of memory adds nothing
abbrev pub recorded : List Opened → Opened → Result Slot IoFault → List Opened
recorded opens opened (Err Memory) = opens
recorded opens opened (Err Failed) = opens ++ opened ∷ []
recorded opens opened (Ok slot) = opens ++ opened ∷ []

-- a count of faults rose: it is more than before, or stands at the last count
pub record Rose (old new : ℕ) : Type 0 where
  pub falls_not : old ≤ new
  pub rises : (old < new) ⊎ (new ≡ last_count)

-- a call answered `Failed` only where the count rose, and with every other answer left it
abbrev pub HasCause : {T : Type 0} → ℕ → ℕ → Result T IoFault → Type 0
HasCause old new (Err Failed) = Rose old new
HasCause old new (Err Memory) = new ≡ old
HasCause old new (Ok x) = new ≡ old

-- `n` bytes at the front of `buf` were taken from what was left: none only at the end, or without room
pub record Reads (buf : List ℕ) (before after : Option (List ℕ)) (n : ℕ) : Type 0 where
  pub within : n ≤ length buf
  pub taken : before ≡ prepend_known (take n buf) after
  pub at_end : n ≡ 0 → 0 < length buf → IsAtEnd after

-- `n` bytes at the front of `bytes` were added to the text: none only where there are none
pub record Writes (bytes : List ℕ) (before after : Option (List ℕ)) (n : ℕ) : Type 0 where
  pub within : n ≤ length bytes
  pub some : 0 < length bytes → 0 < n
  pub added : after ≡ append_known before (take n bytes)

-- a sink is flushed after these bytes were handed to it only where they are none and it was flushed before
abbrev pub flushed_after : List ℕ → Bool → Bool
flushed_after bytes before = before && (length bytes == 0)
