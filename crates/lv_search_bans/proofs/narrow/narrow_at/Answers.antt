-- one ban that leaves nothing is enough
use Rattle.lv_search_bans.proofs.NarrowLemmas.{none_after_all}
use Rattle.lv_search_bans.proofs.narrow.narrow_at.Goals as goal

pub returns-in-Empty-clause-left : goal.returns-in-Empty-clause-left
returns-in-Empty-clause-left c = none_after_all c.args.conflicts.now c.args.masks.now c.loop-place.masks c.loop-place.invariant.free (rw c.in-Empty.is at c.narrow_by.ensures)
