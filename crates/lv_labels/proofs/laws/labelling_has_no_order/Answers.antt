use Rattle.lv_labels.proofs.FindingLemmas.{labelling_has_no_order}
use Rattle.lv_labels.proofs.laws.labelling_has_no_order.Goals as goal

pub returns : goal.returns
returns c = labelling_has_no_order
