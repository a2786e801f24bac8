-- the rows added are empty
use Rattle.std.proofs.Common.{◌≡◌, ◌+◌, ◌-◌, ℕ, length, get_or}
use Rattle.lv_last_values.proofs.occurrences.fit.Given as goal

abbrev pub invariant-loop-heads : goal.invariant-loop-heads
invariant-loop-heads l = (k : ℕ) → get_or l.heads.items k 0 ≡ get_or l.fn.heads.items k 0

abbrev pub decreases-loop-heads : goal.decreases-loop-heads
decreases-loop-heads l = l.row + 1 - length l.heads.items
