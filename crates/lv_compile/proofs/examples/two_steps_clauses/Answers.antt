-- both sides compute to the same
use Rattle.std.proofs.Common.{refl}
use Rattle.lv_compile.proofs.examples.two_steps_clauses.Goals as goal

pub returns : goal.returns
returns c = record { bools = refl; all = refl }
