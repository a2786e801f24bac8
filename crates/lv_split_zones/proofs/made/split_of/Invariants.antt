-- the parts of the split before the lower end begin at the place or before it, those at the upper end behind it
use Rattle.std.proofs.Common.{◌≤◌, ◌-◌, length}
use Rattle.lv_split_zones.proofs.SearchLemmas.{IsBegun, IsAhead}
use Rattle.lv_split_zones.proofs.made.split_of.Given as goal

abbrev pub invariant-loop-low : goal.invariant-loop-low
invariant-loop-low l =
    record {
      ends : l.low ≤ l.high;
      within : l.high ≤ length l.splits;
      begun : IsBegun l.splits l.place l.low;
      ahead : IsAhead l.splits l.place l.high;
    }

abbrev pub decreases-loop-low : goal.decreases-loop-low
decreases-loop-low l = l.high - l.low
