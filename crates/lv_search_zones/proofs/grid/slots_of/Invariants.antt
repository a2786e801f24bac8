-- the slots made and those of the parts left are those of all parts
use Rattle.std.proofs.Common.{◌≡◌, ◌++◌, drop, map, length}
use Rattle.lv_search_zones.specs.Moves.{part_costs, move_slots}
use Rattle.lv_search_zones.proofs.grid.slots_of.Given as goal

abbrev pub invariant-loop-part : goal.invariant-loop-part
invariant-loop-part l = record {
  rest : l.grid ++ map (part_costs l.plant.types) (drop l.part-index l.plant.parts) ≡ move_slots l.plant;
  made : length l.grid ≡ l.part-index;
}
