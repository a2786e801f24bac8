-- the slots that are left tell
use Rattle.std.proofs.Common.{◌≡◌, drop}
use Rattle.lv_boxes.specs.GroupParts.{have_shape}
use Rattle.lv_boxes.proofs.groups.have_one_shape.Given as goal

abbrev pub invariant-loop-slot : goal.invariant-loop-slot
invariant-loop-slot l = have_shape (drop l.slot l.slots) (drop l.slot l.groups) ≡ have_shape l.slots l.groups
