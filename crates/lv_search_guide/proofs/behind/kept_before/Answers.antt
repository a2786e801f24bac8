-- one choice more
use Rattle.lv_search_guide.proofs.FirstLemmas.{kept_more}
use Rattle.lv_search_guide.proofs.behind.kept_before.Goals as goal

pub loop-choice-preserved : goal.loop-choice-preserved
loop-choice-preserved c =
    kept_more c.args.costs.now c.args.first c.args.mask c.loop-choice.kept c.loop-choice.choice c.without_if-kept.result c.ranks_first-behind.result c.ranks_first-behind.ensures c.without_if-kept.ensures
    c.loop-choice.invariant
