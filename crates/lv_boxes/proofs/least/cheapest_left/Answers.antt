-- none is cheaper than a choice that costs nothing
use Rattle.std.proofs.Common.{◌≡◌, length, ap, sym, ◌∙◌, true}
use Rattle.lv_boxes.specs.Least.{costs_more}
use Rattle.lv_boxes.proofs.CheapestLemmas.{free_stays}
use Rattle.lv_boxes.proofs.least.cheapest_left.Goals as goal

-- src/least.rt:61:17
pub returns-then-costs-n-eq0-clause-choice : goal.returns-then-costs-n-eq0-clause-choice
returns-then-costs-n-eq0-clause-choice c =
    let more : costs_more c.args.costs.now c.loop-n.n c.loop-n.best ≡ true = sym c.is_cheaper.ensures ∙ c.if-is_cheaper.true in
    sym (free_stays c.args.costs.now c.args.mask c.loop-n.n (length c.args.costs.now) c.if-costs-n-eq0.true (sym c.has.ensures ∙ c.if-has.true)
    (sym (ap (costs_more c.args.costs.now c.loop-n.n) c.loop-n.invariant.first) ∙ more) c.loop-n-test.true)
