use Rattle.std.proofs.Common.{◌≡◌, ◌++◌, drop}
use Rattle.std.specs.List.{flat_map}
use Rattle.lv_plant.specs.Seeing.{part_observables}
use Rattle.lv_plant.proofs.seeing.all_observables.Given as goal

-- what was added and the observables of the parts that are left are all observables
abbrev pub invariant-loop-part : goal.invariant-loop-part
invariant-loop-part l =
    l.out.items ++ flat_map (part_observables l.plant.types) (drop l.part-index l.plant.parts) ≡ flat_map (part_observables l.plant.types) l.plant.parts
