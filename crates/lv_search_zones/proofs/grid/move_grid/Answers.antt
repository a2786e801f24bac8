-- the plant is well formed, so each part has a move
use Rattle.lv_search_zones.proofs.SlotLemmas.{parts_have_slots}
use Rattle.lv_search_zones.proofs.grid.move_grid.Goals as goal

pub slots_of-requires-clause-slots : goal.slots_of-requires-clause-slots
slots_of-requires-clause-slots c = parts_have_slots c.plant.result.now c.plant.ensures.well_formed
