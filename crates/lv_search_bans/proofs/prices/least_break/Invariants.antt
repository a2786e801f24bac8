-- what breaks the ban at the slots gone through is priced no less
use Rattle.lv_search_bans.proofs.PriceLemmas.{FallSoFar}
use Rattle.lv_search_bans.proofs.prices.least_break.Given as goal

abbrev pub invariant-loop-set : goal.invariant-loop-set
invariant-loop-set l = FallSoFar l.masks l.rows l.least l.sets l.set-index
