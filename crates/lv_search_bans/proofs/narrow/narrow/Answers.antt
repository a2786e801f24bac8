-- the box at the start has no other members without conflict
use Rattle.lv_search_bans.proofs.NarrowLemmas.{none_after_all}
use Rattle.lv_search_bans.proofs.narrow.narrow.Goals as goal

pub returns-in-Empty : goal.returns-in-Empty
returns-in-Empty c = none_after_all c.args.conflicts.now c.args.masks.now c.again.masks c.again.invariant (rw c.in-Empty.is at c.narrow_once.ensures)
