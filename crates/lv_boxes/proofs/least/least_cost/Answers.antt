-- without one mask for each slot there are no cheapest choices
use Rattle.std.proofs.Common.{refl}
use Rattle.lv_boxes.proofs.CheapestLemmas.{cheapest_choices-unequal}
use Rattle.lv_boxes.proofs.least.least_cost.Goals as goal

pub returns-then-masks-slots-clause-sum : goal.returns-then-masks-slots-clause-sum
returns-then-masks-slots-clause-sum c = rw (cheapest_choices-unequal c.args.slots.now c.args.masks.now c.if-masks-slots.true) refl
