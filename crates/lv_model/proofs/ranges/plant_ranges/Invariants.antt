-- what was added and the ranges of the parts that are left are all ranges
use Rattle.std.proofs.Common.{◌≡◌, ◌++◌, drop}
use Rattle.std.specs.List.{flat_map}
use Rattle.lv_model.specs.Ranges.{part_ranges}
use Rattle.lv_model.proofs.ranges.plant_ranges.Given as goal

abbrev pub invariant-loop-part : goal.invariant-loop-part
invariant-loop-part l =
    l.out.items ++ flat_map (part_ranges l.plant.domains l.plant.types) (drop l.part-index l.plant.parts)
    ≡ flat_map (part_ranges l.plant.domains l.plant.types) l.plant.parts
