-- one slot more
use Rattle.std.proofs.Common.{subst, ◌<◌, []}
use Rattle.lv_search_parts.proofs.PartLemmas.{only_next, only_room, same_by}
use Rattle.lv_search_parts.proofs.part.part_grid.Goals as goal

pub push_slot_if-requires-clause-room : goal.push_slot_if-requires-clause-room
push_slot_if-requires-clause-room c is =
    only_room c.loop-slot.part c.args.marks.now c.args.grid.now c.loop-slot.slot 4096 _ [] c.loop-slot-test.true c.requires c.slots-slots.ensures.few is c.loop-slot.invariant

pub loop-slot-preserved : goal.loop-slot-preserved
loop-slot-preserved c =
    only_next c.loop-slot.part c.push_slot_if.new.grid c.args.marks.now c.args.grid.now _ c.loop-slot.slot _ _ c.loop-slot-test.true c.requires
    (same_by c.slots-slots.result.now c.args.grid.now c.loop-slot.slot c.index-slots-slot.result c.as_slice.result.now c.slots-slots.ensures.slots c.index-slots-slot.is c.as_slice.ensures
    (subst (λ n. c.loop-slot.slot < n) c.requires c.loop-slot-test.true))
    c.in_ok-push_slot_if.ensures c.loop-slot.invariant
