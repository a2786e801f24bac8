-- one ban that leaves nothing is enough
use Rattle.lv_search_bans.proofs.NarrowLemmas.{none_after}
use Rattle.lv_search_bans.proofs.narrow.narrow_once.Goals as goal

pub returns-in-Empty : goal.returns-in-Empty
returns-in-Empty c = none_after c.args.conflicts.now c.args.masks.now c.loop-place.masks c.loop-place.changed c.loop-place.invariant (rw c.in-Empty.is at c.narrow_by.ensures)
