-- What is kept of a line that hasn't ended.
use Rattle.std.specs.Prelude.{ℕ, ◌+◌, List, Bool}
use Rattle.lv_base.specs.declared.limits.TheConstants.{LINE_BYTES}

-- the most bytes: one more than a line may have
abbrev pub most_kept : ℕ
most_kept = LINE_BYTES + 1

-- a front of the line, and whether the line goes on behind that
pub record Kept : Type 0 where
  pub bytes : List ℕ
  pub is_longer : Bool
