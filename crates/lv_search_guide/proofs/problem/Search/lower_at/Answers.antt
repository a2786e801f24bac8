-- one more choice that serves no member
use Rattle.lv_search_guide.proofs.LowestLemmas.{none_below_more}
use Rattle.lv_search_guide.proofs.problem.Search.lower_at.Goals as goal

pub loop-choice-preserved : goal.loop-choice-preserved
loop-choice-preserved c =
    none_below_more c.args.self.now.grid.now c.args.self.now.conflicts.now c.args.masks.now c.args.own.slot c.loop-choice.choice c.args.cost c.requires.within c.loop-choice.invariant
    (rw c.in-None.is at c.in_ok-lower.ensures)
