-- Words of the contracts of `read_all` and `write_all`: whole files and whole texts, of calls that take
-- a piece at a time.
use Rattle.std.specs.Prelude.{◌≡◌, ℕ, ◌+◌, ◌<◌, ◌≤◌, ◌⊎◌, List, [], ◌∷◌, ◌++◌, length, take, drop, Option, Result, Ok, Err, IfSome}
use Rattle.std.specs.Io.KnownBytes.{prepend_known, append_known, IsAtEnd}
use Rattle.lv_io.specs.declared.ReadFault.{ReadFault}
use Rattle.lv_io.specs.declared.ReadFault.TheVariants.{Failed, TooLong, Memory}
use Rattle.lv_io.specs.Outside.{Opened, Rose}

-- what was left are these bytes, and nothing is left after them
pub record TakesAll (bytes : List ℕ) (before after : Option (List ℕ)) : Type 0 where
  pub all : IfSome before (λ left. left ≡ bytes)
  pub at_end : IsAtEnd after

-- more than `limit` bytes were left
abbrev pub IsLonger : ℕ → Option (List ℕ) → Type 0
IsLonger limit before = IfSome before (λ left. limit < length left)

-- some front of what was left was taken, of at most `most` bytes
abbrev pub TakesAtMost : ℕ → Option (List ℕ) → Option (List ℕ) → Type 0
TakesAtMost most before after =
    (front : List ℕ) × (length front ≤ most) × (before ≡ prepend_known front after)

-- `n` bytes that were taken from what was left came behind the bytes kept: none only at the end
pub record Grows (old new : List ℕ) (before after : Option (List ℕ)) (n : ℕ) : Type 0 where
  pub count : length new ≡ length old + n
  pub kept : take (length old) new ≡ old
  pub taken : before ≡ prepend_known (drop (length old) new) after
  pub at_end : n ≡ 0 → IsAtEnd after

-- `Failed` came only where the count rose, and every other answer left it
abbrev pub HasReadCause : {T : Type 0} → ℕ → ℕ → Result T ReadFault → Type 0
HasReadCause old new (Err Failed) = Rose old new
HasReadCause old new (Err TooLong) = new ≡ old
HasReadCause old new (Err Memory) = new ≡ old
HasReadCause old new (Ok x) = new ≡ old

-- the open was recorded, and nothing else; only where memory was wanting, maybe nothing
abbrev pub OpensOne : {T : Type 0} → List Opened → Opened → List Opened → Result T ReadFault → Type 0
OpensOne old opened new (Err Memory) = (new ≡ old) ⊎ (new ≡ old ++ opened ∷ [])
OpensOne old opened new (Err Failed) = new ≡ old ++ opened ∷ []
OpensOne old opened new (Err TooLong) = new ≡ old ++ opened ∷ []
OpensOne old opened new (Ok x) = new ≡ old ++ opened ∷ []

-- a front of the bytes was added to the text
abbrev pub AddsFront : List ℕ → Option (List ℕ) → Option (List ℕ) → Type 0
AddsFront bytes before after = (n : ℕ) × (after ≡ append_known before (take n bytes))
