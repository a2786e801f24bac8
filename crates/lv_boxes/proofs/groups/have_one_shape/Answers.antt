-- with another number of slots the shape is another
use Rattle.std.proofs.Common.{sym}
use Rattle.lv_boxes.proofs.GroupPartsLemmas.{other_lengths}
use Rattle.lv_boxes.proofs.groups.have_one_shape.Goals as goal

pub returns-then-slots-groups : goal.returns-then-slots-groups
returns-then-slots-groups c = sym (other_lengths c.args.slots.now c.args.groups.now c.if-slots-groups.true)
