-- the plant is well formed, so each control has a value, and there are no more controls than variables
use Rattle.std.proofs.Common.{◌∙◌}
use Rattle.lv_search_zones.proofs.ControlLemmas.{controls_have_slots, few_controls}
use Rattle.lv_search_zones.proofs.commands.command_grid.Goals as goal

pub slots_of-requires-clause-few : goal.slots_of-requires-clause-few
slots_of-requires-clause-few c =
    few_controls c.args.model.now c.plant-plant.result.now c.plant-plant.ensures.plant c.plant-plant.ensures.few c.as_slice-2.result.now
    (c.as_slice-2.ensures.value ∙ c.in_ok-controls.ensures.controls)

pub slots_of-requires-clause-slots : goal.slots_of-requires-clause-slots
slots_of-requires-clause-slots c =
    rw (c.as_slice-2.ensures.value, c.in_ok-controls.ensures.controls) (controls_have_slots c.args.model.now (rw (← c.plant-plant.ensures.plant) c.plant-plant.ensures.well_formed))
