use Rattle.std.proofs.Common.{◌≡◌, ◌++◌, take}
use Rattle.lv_checker.proofs.checker.push_ranges.Given as goal

-- the ranges so far are added
abbrev pub invariant-loop-range : goal.invariant-loop-range
invariant-loop-range l = l.all ≡ l.fn.all ++ take l.range-index l.ranges
