use Rattle.lv_labels.proofs.LawLemmas.{labelling_is_one}
use Rattle.lv_labels.proofs.laws.labelling_is_one.Goals as goal

pub returns : goal.returns
returns c = labelling_is_one
