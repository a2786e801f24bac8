-- each box that is taken off leaves the search under way
use Rattle.lv_search_guide.proofs.SearchLemmas.{under_way-next}
use Rattle.lv_search_guide.proofs.problem.Search.cheapest_of.Goals as goal

pub loop-next-preserved : goal.loop-next-preserved
loop-next-preserved c =
    under_way-next c.args.self.now.grid.now c.args.self.now.conflicts.now c.args.first.masks c.args.under c.loop-next.best c.take_box.new.best c.loop-next.boxes.items c.pop.new.self.items c.take_box.new.boxes.items c.in-Some.next _
    c.pop.ensures.items c.in-Some.is c.in_ok-take_box.ensures c.loop-next.invariant
