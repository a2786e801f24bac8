-- along the walk, and for the members of zones as its entries
use Rattle.lv_cert_writing.proofs.SplitWalkLemmas.{walk_explains, search_explains}
use Rattle.lv_cert_writing.proofs.split_laws.settled_walk_explains.Goals as goal

pub returns : goal.returns
returns c = record { entries = walk_explains; members = search_explains }
