-- the zones made and those of the states left are those of all states
use Rattle.std.proofs.Common.{◌≡◌, ◌++◌, drop}
use Rattle.lv_search_zones.specs.Moves.{zones_from}
use Rattle.lv_search_zones.proofs.zones.zones_of.Given as goal

abbrev pub invariant-loop-place : goal.invariant-loop-place
invariant-loop-place l = l.zones.items ++ zones_from l.model l.place (drop l.place l.tracked) ≡ zones_from l.model 0 l.tracked
