-- each rank put in keeps the order and adds itself
use Rattle.lv_boxes.proofs.RankedLemmas.{rises_ranked, among_ranked}
use Rattle.lv_boxes.proofs.walk_laws.ranked_is_in_order.Goals as goal

pub returns : goal.returns
returns c = record { rising = rises_ranked; same = among_ranked }
