-- what the slots that are left say is what all say
use Rattle.lv_search_bans.proofs.NarrowLemmas.{IsLeaving}
use Rattle.lv_search_bans.proofs.narrow.left_of.Given as goal

abbrev pub invariant-loop-set : goal.invariant-loop-set
invariant-loop-set l = IsLeaving l.masks l.sets l.set-index l.last
