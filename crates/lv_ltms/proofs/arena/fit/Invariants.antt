-- what was there is there, and behind it nothing is noted
use Rattle.std.proofs.Common.{◌≡◌, ℕ, ◌+◌, ◌-◌, false, length, get_or}
use Rattle.lv_ltms.proofs.arena.fit.Given as goal

abbrev pub invariant-loop-pairs : goal.invariant-loop-pairs
invariant-loop-pairs l =
    record {
      same : (i : ℕ) → get_or l.pairs.items i false ≡ get_or l.fn.pairs.items i false;
    }

abbrev pub decreases-loop-pairs : goal.decreases-loop-pairs
decreases-loop-pairs l = l.number + 1 - length l.pairs.items
