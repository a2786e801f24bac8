-- what was added and the modes of the parts that are left are all
use Rattle.std.proofs.Common.{◌≡◌, ◌++◌, drop, map}
use Rattle.lv_model.specs.declared.plant.Part.{Part}
use Rattle.lv_labels.proofs.modes.mode_variables.Given as goal

abbrev pub invariant-loop-part : goal.invariant-loop-part
invariant-loop-part l = l.out.items ++ map (λ (p : Part). p.first) (drop l.part-index l.plant.parts) ≡ map (λ (p : Part). p.first) l.plant.parts
