-- the pairs gone through
use Rattle.lv_search_guide.specs.Cheapest.{OpenTells}
use Rattle.lv_search_guide.proofs.look.busiest_open.Given as goal

abbrev pub invariant-loop-pair : goal.invariant-loop-pair
invariant-loop-pair l = OpenTells l.masks l.pairs l.pair-index l.busiest
