-- the numbers before this one are those of clauses
use Rattle.lv_asking.specs.Lemmas.{IsFilled}
use Rattle.lv_asking.proofs.lemma_solver.is_filled.Given as goal

abbrev pub invariant-loop-at : goal.invariant-loop-at
invariant-loop-at l = IsFilled l.at l.set
