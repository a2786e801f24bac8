-- Of which split a zone is a part.
use Rattle.std.specs.Prelude.{◌≡◌, ℕ, ◌+◌, ◌≤◌, ◌<◌, List, Option, Some, None, slice_get}
use Rattle.lv_split_zones.specs.declared.split.Split.{Split}

-- the split is the last whose parts begin at the place or before it
pub record IsLastBefore (splits : List Split) (place : ℕ) (s : Split) : Type 0 where
  pub at : ℕ
  pub is : slice_get splits at ≡ Some s
  pub begun : s.first ≤ place
  pub ahead : (i : ℕ) (t : Split) → i ≡ at + 1 → slice_get splits i ≡ Some t → place < t.first

-- it is that split, or no split's parts begin so early
abbrev pub IsSplitOf : List Split → ℕ → Option Split → Type 0
IsSplitOf splits place (Some s) = IsLastBefore splits place s
IsSplitOf splits place None = (t : Split) → slice_get splits 0 ≡ Some t → place < t.first
