-- the least of the prices gone through
use Rattle.lv_search_bans.specs.Prices.{LeastTells}
use Rattle.lv_search_bans.proofs.prices.least_in.Given as goal

abbrev pub invariant-loop-choice : goal.invariant-loop-choice
invariant-loop-choice l = LeastTells l.prices l.mask l.choice l.fn.before l.least
