use Rattle.std.proofs.Common.{◌≡◌, ◌++◌, map, drop}
use Rattle.lv_model.specs.Lists.{part_moves}
use Rattle.lv_model.proofs.variables.all_move_counts.Given as goal

-- what was added and the counts of the parts that are left are all counts
abbrev pub invariant-loop-part : goal.invariant-loop-part
invariant-loop-part l = l.out.items ++ map (part_moves l.plant.types) (drop l.part-index l.plant.parts) ≡ map (part_moves l.plant.types) l.plant.parts
