use Rattle.std.proofs.Common.{◌≡◌, ◌+◌, ◌++◌, drop}
use Rattle.lv_plant.specs.Seeing.{letter, seen_from}
use Rattle.lv_plant.proofs.seeing.sightings_of.Given as goal

-- what was made and what is observed of the variables that are left are all
abbrev pub invariant-loop-i : goal.invariant-loop-i
invariant-loop-i l = l.out.items ++ seen_from (letter l.odd) (l.i + 1) l.b (drop l.i l.vars) ≡ seen_from (letter l.odd) 1 l.b l.vars
