-- what is refused contains no kept conflict, and so its reason has none
use Rattle.lv_boxes.proofs.KeptLemmas.{walk_kept_apart}
use Rattle.lv_boxes.proofs.walk_laws.kept_are_apart.Goals as goal

pub returns : goal.returns
returns c = walk_kept_apart
