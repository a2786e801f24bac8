-- by induction on the listed states
use Rattle.lv_tracker.proofs.FirstLemmas.{first_of_each_law}
use Rattle.lv_tracker.proofs.laws.first_of_each_are_firsts.Goals as goal

pub returns : goal.returns
returns c = first_of_each_law
