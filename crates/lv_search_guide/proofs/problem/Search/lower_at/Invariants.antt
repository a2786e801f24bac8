-- no choice that was asked for serves
use Rattle.lv_search_guide.specs.Lowest.{NoneBelow}
use Rattle.lv_search_guide.proofs.problem.Search.lower_at.Given as goal

abbrev pub invariant-loop-choice : goal.invariant-loop-choice
invariant-loop-choice l = NoneBelow l.self.grid.now l.self.conflicts.now l.masks l.own.slot l.choice l.cost
