-- both lists have the same states, in the order of their first appearance
use Rattle.lv_tracker.proofs.OneList.{first_of_each_one}
use Rattle.lv_tracker.proofs.laws.first_of_each_is_one.Goals as goal

pub returns : goal.returns
returns c = first_of_each_one
