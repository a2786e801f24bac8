-- no two ranks of which neither ranks before the other
use Rattle.lv_search_guide.proofs.FreeLemmas.{least_is_one}
use Rattle.lv_search_guide.proofs.laws.least_free_is_one.Goals as goal

pub returns : goal.returns
returns c = least_is_one
