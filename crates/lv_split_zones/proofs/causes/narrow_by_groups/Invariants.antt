-- what is left of the slots makes of the masks what all would
use Rattle.std.proofs.Common.{◌≡◌, drop}
use Rattle.lv_split_zones.specs.Splits.{masks_of_target_part}
use Rattle.lv_split_zones.proofs.causes.narrow_by_groups.Given as goal

abbrev pub invariant-loop-slot : goal.invariant-loop-slot
invariant-loop-slot l = masks_of_target_part l.masks l.slot (drop l.slot l.slots) (drop l.slot l.member) l.part ≡ masks_of_target_part l.fn.masks 0 l.groups l.member l.part
