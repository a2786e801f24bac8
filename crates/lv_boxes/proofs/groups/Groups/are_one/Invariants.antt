-- the slots that are left tell
use Rattle.std.proofs.Common.{◌≡◌, drop}
use Rattle.lv_boxes.specs.Groups.{have_same_groups}
use Rattle.lv_boxes.proofs.groups.Groups.are_one.Given as goal

abbrev pub invariant-loop-slot : goal.invariant-loop-slot
invariant-loop-slot l = have_same_groups (drop l.slot l.slots) (drop l.slot l.one) (drop l.slot l.other) ≡ have_same_groups l.slots l.one l.other
