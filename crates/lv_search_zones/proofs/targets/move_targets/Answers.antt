-- the plant is well formed, so each part has a move
use Rattle.lv_search_zones.proofs.SlotLemmas.{parts_have_slots}
use Rattle.lv_search_zones.proofs.targets.move_targets.Goals as goal

pub groups_of-requires-clause-slots : goal.groups_of-requires-clause-slots
groups_of-requires-clause-slots c = parts_have_slots c.plant.result.now c.plant.ensures.well_formed
