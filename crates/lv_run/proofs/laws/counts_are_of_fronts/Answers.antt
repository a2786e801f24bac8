-- The law, by its lemma.
use Rattle.lv_run.proofs.FrontLemmas.{of_fronts}
use Rattle.lv_run.proofs.laws.counts_are_of_fronts.Goals as goal

pub returns : goal.returns
returns c = of_fronts
