-- the box keeps its first member
use Rattle.std.specs.Prelude.{sum}
use Rattle.lv_search_guide.specs.First.{KeepsFirst}
use Rattle.lv_search_guide.proofs.behind.drop_behind.Given as goal

abbrev pub invariant-again : goal.invariant-again
invariant-again l = KeepsFirst l.problem.grid.now l.problem.conflicts.now l.fn.masks l.masks

abbrev pub decreases-again : goal.decreases-again
decreases-again l = sum l.masks
