-- the box keeps its first member
use Rattle.lv_search_guide.specs.First.{KeepsFirst}
use Rattle.lv_search_guide.proofs.problem.Problem.first_by_parts.Given as goal

abbrev pub invariant-loop-part : goal.invariant-loop-part
invariant-loop-part l = KeepsFirst l.self.grid.now l.self.conflicts.now l.fn.masks l.masks
