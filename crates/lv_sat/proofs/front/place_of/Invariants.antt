-- the literal is among what is left
use Rattle.std.proofs.Common.{◌≡◌, ◌-◌, length, drop, true}
use Rattle.lv_trail.specs.Trail.{among, lits_of}
use Rattle.lv_sat.proofs.front.place_of.Given as goal

abbrev pub invariant-loop-lit : goal.invariant-loop-lit
invariant-loop-lit l = among (lits_of (drop l.place l.entries)) l.lit ≡ true

abbrev pub decreases-loop-lit : goal.decreases-loop-lit
decreases-loop-lit l = length l.entries - l.place
