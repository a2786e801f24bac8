-- what is added so far and the parts left say what all say
use Rattle.std.proofs.Common.{drop}
use Rattle.lv_model.specs.Meaning.{is_nominal, parts_are_nominal}
use Rattle.lv_reconf.specs.Narrowing.{NarrowsSoFar}
use Rattle.lv_reconf.proofs.clauses.exclude_faults.Given as goal

abbrev pub invariant-loop-k : goal.invariant-loop-k
invariant-loop-k l =
    NarrowsSoFar l.compiled l.initial.solver.set l.solver.set (λ a b ms. parts_are_nominal l.compiled.types (drop l.k l.compiled.parts) (drop l.k ms)) (λ a b ms. is_nominal l.compiled ms)
