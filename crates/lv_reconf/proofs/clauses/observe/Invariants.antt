-- what is added so far and the observations left say what all say
use Rattle.std.proofs.Common.{drop}
use Rattle.lv_meaning.specs.Facts.{meets}
use Rattle.lv_reconf.specs.Narrowing.{NarrowsSoFar}
use Rattle.lv_reconf.proofs.clauses.observe.Given as goal

abbrev pub invariant-loop-o : goal.invariant-loop-o
invariant-loop-o l = NarrowsSoFar l.compiled l.initial.solver.set l.solver.set (λ a b ms. meets a (drop l.o-index l.present)) (λ a b ms. meets a l.present)
