-- both begin with the same rank, and go on likewise
use Rattle.lv_boxes.proofs.RankedLemmas.{one_list}
use Rattle.lv_boxes.proofs.walk_laws.ranked_list_is_one.Goals as goal

pub returns : goal.returns
returns c = one_list
