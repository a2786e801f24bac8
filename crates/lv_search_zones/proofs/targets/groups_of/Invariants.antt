-- the slots made and those of the parts left are those of all parts
use Rattle.std.proofs.Common.{◌≡◌, ◌++◌, drop, map, length}
use Rattle.lv_meaning.specs.Targets.{move_targets, targets_of_moves}
use Rattle.lv_search_zones.proofs.targets.groups_of.Given as goal

abbrev pub invariant-loop-part : goal.invariant-loop-part
invariant-loop-part l = record {
  rest : l.groups ++ map (move_targets l.plant.types) (drop l.part-index l.plant.parts) ≡ targets_of_moves l.plant;
  made : length l.groups ≡ l.part-index;
}
