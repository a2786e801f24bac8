-- One piece of a session, as it is read.
use Rattle.std.specs.Prelude.{◌≡◌, ℕ, ◌≤◌, List, length, take, Option}
use Rattle.std.specs.Io.KnownBytes.{prepend_known, IsAtEnd}

-- of `most` bytes asked for, the first `n` of `buf` came: none only at the end
pub record Came (most : ℕ) (buf : List ℕ) (before after : Option (List ℕ)) (n : ℕ) : Type 0 where
  pub within : n ≤ most
  pub inside : n ≤ length buf
  pub taken : before ≡ prepend_known (take n buf) after
  pub at_end : n ≡ 0 → IsAtEnd after
