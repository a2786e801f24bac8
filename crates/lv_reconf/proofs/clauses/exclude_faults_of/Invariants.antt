-- what is added so far and the moves left say what all say
use Rattle.std.proofs.Common.{drop}
use Rattle.lv_compile.specs.Laws.{move_number}
use Rattle.lv_reconf.specs.Narrowing.{NarrowsSoFar, no_fault_from}
use Rattle.lv_reconf.proofs.clauses.exclude_faults_of.Given as goal

abbrev pub invariant-loop-n : goal.invariant-loop-n
invariant-loop-n l =
    NarrowsSoFar l.compiled l.initial.solver.set l.solver.set (λ a b ms. no_fault_from l.n (drop l.n l.moves) (move_number ms l.part)) (λ a b ms. no_fault_from 0 l.moves (move_number ms l.part))
