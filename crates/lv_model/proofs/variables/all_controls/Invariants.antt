use Rattle.std.proofs.Common.{◌≡◌, ◌++◌, drop}
use Rattle.std.specs.List.{flat_map}
use Rattle.lv_model.specs.Lists.{part_controls}
use Rattle.lv_model.proofs.variables.all_controls.Given as goal

-- what was added and the controls of the parts that are left are all controls
abbrev pub invariant-loop-part : goal.invariant-loop-part
invariant-loop-part l =
    l.out.items ++ flat_map (part_controls l.plant.types) (drop l.part-index l.plant.parts) ≡ flat_map (part_controls l.plant.types) l.plant.parts
