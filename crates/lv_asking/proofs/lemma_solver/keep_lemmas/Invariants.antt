-- lemmas alone were added
use Rattle.lv_asking.specs.Lemmas.{AddsLemmas}
use Rattle.lv_asking.proofs.lemma_solver.keep_lemmas.Given as goal

abbrev pub invariant-loop-place : goal.invariant-loop-place
invariant-loop-place l = AddsLemmas l.front.bound l.front.is_filled l.fn.solver.set l.solver.set
