-- copies of all clauses, and no lemma yet
use Rattle.lv_asking.proofs.LemmaLemmas.{none_yet, models_yet}
use Rattle.lv_asking.proofs.lemma_solver.LemmaSolver.new.Goals as goal

pub invariant_of-result : goal.invariant_of-result
invariant_of-result c = none_yet c.args.set.now c.in_ok-new.field-0.set c.bound-bound.result c.is_filled.result c.in_ok-new.ensures.set c.bound-bound.ensures c.is_filled.ensures

pub returns : goal.returns
returns c = models_yet c.args.set.now c.in_ok-new.field-0.set c.bound-bound.result c.in_ok-new.ensures.set c.bound-bound.ensures
