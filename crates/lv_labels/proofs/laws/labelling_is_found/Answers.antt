use Rattle.lv_labels.proofs.FindingLemmas.{labelling_is_found}
use Rattle.lv_labels.proofs.laws.labelling_is_found.Goals as goal

pub returns : goal.returns
returns c = labelling_is_found
