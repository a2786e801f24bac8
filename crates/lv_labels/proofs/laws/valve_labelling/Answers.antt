-- both sides compute to the same
use Rattle.std.proofs.Common.{refl}
use Rattle.lv_labels.specs.Finding.{labelling}
use Rattle.lv_labels.proofs.laws.valve_labelling.Goals as goal

pub returns : goal.returns
unfolding labelling
returns c = record { inflow = refl; closed = refl; flows_out = refl }
