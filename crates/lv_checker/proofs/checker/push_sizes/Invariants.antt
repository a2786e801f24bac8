use Rattle.std.proofs.Common.{◌≡◌, ◌++◌, map, take}
use Rattle.lv_checker.specs.Drafts.{limited_size}
use Rattle.lv_checker.proofs.checker.push_sizes.Given as goal

-- the sizes of the ranges so far are added
abbrev pub invariant-loop-range : goal.invariant-loop-range
invariant-loop-range l = l.sizes ≡ l.fn.sizes ++ map limited_size (take l.range-index l.ranges)
