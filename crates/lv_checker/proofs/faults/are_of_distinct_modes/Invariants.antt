use Rattle.std.proofs.Common.{◌≡◌, length}
use Rattle.lv_checker.specs.Faults.{are_of_distinct_modes}
use Rattle.lv_checker.proofs.faults.are_of_distinct_modes.Given as goal

-- whether all are of distinct modes is whether those that are left are
abbrev pub invariant-loop-law : goal.invariant-loop-law
invariant-loop-law l = are_of_distinct_modes l.rest ≡ are_of_distinct_modes l.laws

abbrev pub decreases-loop-law : goal.decreases-loop-law
decreases-loop-law l = length l.rest
