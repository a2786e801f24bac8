-- the masks made and those of the parts left are those of all parts
use Rattle.std.proofs.Common.{◌≡◌, ◌++◌, drop}
use Rattle.lv_search_zones.specs.Moves.{masks_of}
use Rattle.lv_search_zones.proofs.zones.masks_of.Given as goal

abbrev pub invariant-loop-slot : goal.invariant-loop-slot
invariant-loop-slot l = l.masks.items ++ masks_of l.plant.types (drop l.slot l.plant.parts) (drop l.slot l.modes) ≡ masks_of l.plant.types l.plant.parts l.modes
