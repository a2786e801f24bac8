-- what was added and the classes of the parts that are left are all
use Rattle.std.proofs.Common.{◌≡◌, ◌++◌, drop}
use Rattle.std.specs.List.{flat_map}
use Rattle.lv_model_names.specs.Names.{part_classes}
use Rattle.lv_model_names.proofs.lists.classes.Given as goal

abbrev pub invariant-loop-part : goal.invariant-loop-part
invariant-loop-part l = l.out.items ++ flat_map (part_classes l.types) (drop l.part-index l.part-items) ≡ flat_map (part_classes l.types) l.part-items
