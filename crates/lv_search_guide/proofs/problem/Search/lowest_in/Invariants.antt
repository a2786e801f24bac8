-- the slots looked at have the choices of the first
use Rattle.lv_search_guide.specs.Lowest.{IsNarrowed}
use Rattle.lv_search_guide.proofs.problem.Search.lowest_in.Given as goal

abbrev pub invariant-loop-slot : goal.invariant-loop-slot
invariant-loop-slot l = IsNarrowed l.self.grid.now l.self.conflicts.now l.fn.masks l.cost l.slot l.part l.choices
