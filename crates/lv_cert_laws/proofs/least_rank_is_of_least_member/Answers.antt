-- by the cheapest choices
use Rattle.lv_cert_laws.proofs.LeastRanks.{least_ranks}
use Rattle.lv_cert_laws.proofs.least_rank_is_of_least_member.Goals as goal

pub returns : goal.returns
returns c = least_ranks
