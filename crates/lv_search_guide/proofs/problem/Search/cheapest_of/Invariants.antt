-- what is cheaper than what was found is in the boxes that are left
use Rattle.lv_search_guide.specs.Cheapest.{IsUnderWay, weight_of}
use Rattle.lv_search_guide.proofs.problem.Search.cheapest_of.Given as goal

abbrev pub invariant-loop-next : goal.invariant-loop-next
invariant-loop-next l = IsUnderWay l.self.grid.now l.self.conflicts.now l.fn.first.masks l.under l.best l.boxes.items

abbrev pub decreases-loop-next : goal.decreases-loop-next
decreases-loop-next l = weight_of l.boxes.items
