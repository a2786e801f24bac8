use Rattle.lv_search_zones.proofs.ZoneLemmas.{zones_have_candidates, zones_differ, candidates_are_full}
use Rattle.lv_search_zones.proofs.laws.zones_hold_the_candidates.Goals as goal

pub returns : goal.returns
returns c = record { same = zones_have_candidates; differ = λ plant. zones_differ plant 0; full = candidates_are_full }
