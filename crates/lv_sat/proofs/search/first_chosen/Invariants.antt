-- the place is from the first one on, and within the entries
use Rattle.std.proofs.Common.{◌≤◌, ◌-◌, length}
use Rattle.lv_sat.proofs.search.first_chosen.Given as goal

abbrev pub invariant-loop-place : goal.invariant-loop-place
invariant-loop-place l = record { from : l.floor ≤ l.place; within : l.place ≤ length l.entries }

abbrev pub decreases-loop-place : goal.decreases-loop-place
decreases-loop-place l = length l.entries - l.place
