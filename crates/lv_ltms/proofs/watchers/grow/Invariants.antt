-- what was there is there, and behind it all is blank
use Rattle.std.proofs.Common.{◌≡◌, ℕ, ◌+◌, ◌-◌, ◌≤◌, length, get_or}
use Rattle.lv_ltms.specs.Watching.{blank}
use Rattle.lv_ltms.proofs.watchers.grow.Given as goal

abbrev pub invariant-loop-watches : goal.invariant-loop-watches
invariant-loop-watches l =
    record {
      more : length l.fn.watches.items ≤ length l.watches.items;
      most : length l.watches.items ≤ 4294967295;
      same : (i : ℕ) → get_or l.watches.items i blank ≡ get_or l.fn.watches.items i blank;
    }

abbrev pub decreases-loop-watches : goal.decreases-loop-watches
decreases-loop-watches l = l.number + 1 - length l.watches.items
