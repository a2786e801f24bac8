-- the parts made, and the parts of what is left by the slots that are left, are the parts of the whole
use Rattle.std.proofs.Common.{◌≡◌, ◌++◌, drop}
use Rattle.lv_boxes.specs.GroupParts.{parts_from, parts_by_groups}
use Rattle.lv_boxes.proofs.groups.split_by_groups.Given as goal

abbrev pub invariant-loop-slot : goal.invariant-loop-slot
invariant-loop-slot l = l.zones.items ++ parts_from l.rest l.slot (drop l.slot l.slots) (drop l.slot l.member) ≡ parts_by_groups l.zone l.groups l.member
