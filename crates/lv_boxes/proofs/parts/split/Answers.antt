-- where every pair has been taken, the zones made are the parts of the whole, and those are a split
use Rattle.lv_boxes.proofs.PartsLemmas.{all_made, parts_are_split}
use Rattle.lv_boxes.proofs.parts.split.Goals as goal

pub returns-clause-split : goal.returns-clause-split
returns-clause-split c =
    parts_are_split c.args.zone.now c.args.conflict.now c.loop-pair.zones.items
    (all_made c.loop-pair.zones.items c.loop-pair.rest c.pairs-pairs.result.now c.loop-pair.pair-index _ c.loop-pair-test.false c.loop-pair.invariant)
