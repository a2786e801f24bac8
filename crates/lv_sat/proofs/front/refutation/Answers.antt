-- the last clause is of negations of assumptions
use Rattle.lv_sat.proofs.SearchLemmas.{refutes}
use Rattle.lv_sat.proofs.front.refutation.Goals as goal

pub returns : goal.returns
returns c = λ set assumptions here. refutes set assumptions c.in_ok-core.core c.args.log here c.in_ok-core.ensures
