-- the choices of the last slot are taken out
use Rattle.std.proofs.Common.{subst}
use Rattle.lv_search_bans.specs.Narrow.{LeavesOne}
use Rattle.lv_search_bans.proofs.NarrowLemmas.{one_takes_out}
use Rattle.lv_search_bans.proofs.narrow.take_out.Goals as goal

pub returns-in-Last : goal.returns-in-Last
returns-in-Last c =
    λ conflicts r. one_takes_out conflicts c.args.masks.now c.exclude_all.new.self c.args.sets.now c.in-Last.set r (subst (λ ms. LeavesOne ms c.args.sets.now c.in-Last.set) c.as_slice.ensures (rw c.in-Last.is at c.left_of.ensures)) c.exclude_all.ensures
