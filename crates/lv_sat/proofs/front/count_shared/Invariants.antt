-- so many are the same
use Rattle.std.proofs.Common.{◌≡◌, ◌≤◌, ◌-◌, length, take}
use Rattle.lv_sat.specs.Front.{assumed}
use Rattle.lv_sat.proofs.front.count_shared.Given as goal

abbrev pub invariant-loop-count : goal.invariant-loop-count
invariant-loop-count l =
    record {
      levels : l.count ≤ length l.levels;
      assumptions : l.count ≤ length l.assumptions;
      shared : take l.count (assumed l.levels) ≡ take l.count l.assumptions;
    }

abbrev pub decreases-loop-count : goal.decreases-loop-count
decreases-loop-count l = length l.levels - l.count
