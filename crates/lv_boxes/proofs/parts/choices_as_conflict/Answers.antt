-- the slots of all choices rise
use Rattle.std.proofs.Common.{refl}
use Rattle.lv_boxes.proofs.MemberLemmas.{pairs_rise, all_paired}
use Rattle.lv_boxes.proofs.parts.choices_as_conflict.Goals as goal

pub from_pairs-requires : goal.from_pairs-requires
from_pairs-requires c =
    rw (c.as_slice.ensures.value, all_paired c.loop-slot.pairs.items c.loop-slot.slot c.args.choices.now c.loop-slot-test.false c.loop-slot.invariant, pairs_rise 0 c.args.choices.now) refl
