-- where every slot has been taken, the zones made are the parts of the whole, and those are a split
use Rattle.lv_boxes.specs.GroupParts.{parts_by_groups}
use Rattle.lv_boxes.proofs.GroupPartsLemmas.{all_made, parts_are_split}
use Rattle.lv_boxes.proofs.groups.split_by_groups.Goals as goal

pub returns-clause-split : goal.returns-clause-split
returns-clause-split c =
    λ len own.
    parts_are_split c.args.zone.now c.args.groups.now c.args.member.now c.loop-slot.zones.items
    (all_made c.loop-slot.zones.items c.loop-slot.rest c.loop-slot.slot c.slots-slots.result.now c.args.member.now (parts_by_groups c.args.zone.now c.args.groups.now c.args.member.now) c.loop-slot-test.false c.loop-slot.invariant)
    len own
