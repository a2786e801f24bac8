-- the box at the start has no other members without conflict
use Rattle.lv_search_bans.proofs.NarrowLemmas.{none_after_all}
use Rattle.lv_search_bans.proofs.narrow.narrow_from.Goals as goal

pub returns-then-not-may_be_left : goal.returns-then-not-may_be_left
returns-then-not-may_be_left c = none_after_all c.args.conflicts.now c.args.masks.now c.loop-slot.masks c.loop-slot.invariant (rw c.if-not-may_be_left.true at c.in_ok-may_be_left.ensures.left)
