-- what was added and the conflicts of the parts left are those of all
use Rattle.std.proofs.Common.{◌≡◌, ◌+◌, ◌++◌, drop, length}
use Rattle.lv_window.specs.Joints.{part_joints}
use Rattle.lv_window.proofs.joints.push_step.Given as goal

abbrev pub invariant-loop-part : goal.invariant-loop-part
invariant-loop-part l =
    l.out.items ++ part_joints l.plant.types (l.slot + l.part) (l.slot + length l.parts + l.part) (drop l.part l.parts)
    ≡ l.initial.out.items ++ part_joints l.plant.types l.slot (l.slot + length l.parts) l.parts
