-- one mask more
use Rattle.lv_search_parts.proofs.PartLemmas.{only_next, same_at}
use Rattle.lv_search_parts.proofs.part.part_masks.Goals as goal

pub loop-slot-preserved : goal.loop-slot-preserved
loop-slot-preserved c =
    only_next c.loop-slot.part.items c.push_if.new.masks.items c.args.marks.now c.args.masks.now _ c.loop-slot.slot _ _ c.loop-slot-test.true c.requires (same_at c.args.masks.now c.loop-slot.slot 0)
    c.in_ok-push_if.ensures c.loop-slot.invariant
