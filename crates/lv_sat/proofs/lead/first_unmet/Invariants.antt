-- the place is in the row
use Rattle.std.proofs.Common.{◌≤◌, length}
use Rattle.lv_sat.proofs.lead.first_unmet.Given as goal

abbrev pub invariant-loop-place : goal.invariant-loop-place
invariant-loop-place l = l.place ≤ length l.occurrences.links

abbrev pub decreases-loop-place : goal.decreases-loop-place
decreases-loop-place l = l.place
