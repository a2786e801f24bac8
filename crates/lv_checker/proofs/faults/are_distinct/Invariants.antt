use Rattle.std.proofs.Common.{◌≡◌, length}
use Rattle.lv_checker.specs.Faults.{are_distinct}
use Rattle.lv_checker.proofs.faults.are_distinct.Given as goal

-- whether all are distinct is whether those that are left are
abbrev pub invariant-loop-name : goal.invariant-loop-name
invariant-loop-name l = are_distinct l.rest ≡ are_distinct l.names

abbrev pub decreases-loop-name : goal.decreases-loop-name
decreases-loop-name l = length l.rest
