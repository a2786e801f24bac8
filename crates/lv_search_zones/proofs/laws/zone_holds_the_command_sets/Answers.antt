-- both are in order, and the same ranks stand in them
use Rattle.lv_search_zones.proofs.CommandLemmas.{zone_has_sets, sets_suit}
use Rattle.lv_search_zones.proofs.laws.zone_holds_the_command_sets.Goals as goal

pub returns : goal.returns
returns c = record { same = zone_has_sets; whole = sets_suit }
