-- What holds of a plant between lines.
use Rattle.std.specs.Prelude.{◌≡◌, false, List, IsTrue, Option}
use Rattle.std.specs.Cmp.Lexicographic.{pointwise}
use Rattle.lv_base.specs.declared.ids.ValId.{ValId}
use Rattle.lv_base.specs.declared.ids.MoveId.{MoveId}
use Rattle.lv_model.specs.declared.plant.Plant.{Plant}
use Rattle.lv_model.specs.Ranges.{plant_ranges}
use Rattle.lv_model.specs.Lists.{sizes, move_counts}
use Rattle.lv_meaning.specs.Ranges.{modes_fit}
use Rattle.lv_session.specs.Session.{RunningSession}
use Rattle.lv_plant_step.specs.lv_system.Laws.{IsAssignment}
use Rattle.lv_plant_step.specs.declared.asked.PlantStep.{PlantStep}
use Rattle.lv_plant_step.specs.PlantSteps.{fault_fits}

-- the session and the stepper are the plant's, and the session hasn't ended; each part is in a mode that its type has, and what is named
-- of it is a move that it has
pub record IsPlant (plant : Plant) (session : RunningSession) (stepper : Plant) (in_modes : List ValId) (named : List (Option MoveId)) : Type 0 where
  pub session_is : session.plant ≡ plant
  pub stepper_is : stepper ≡ plant
  pub goes_on : session.state.is_ended ≡ false
  pub modes : IsTrue (modes_fit (plant_ranges plant) plant.parts in_modes)
  pub faults : IsTrue (pointwise fault_fits named (move_counts plant))

-- the values after the step are those of the plant's variables
pub record EndsIn (plant : Plant) (step : PlantStep) : Type 0 where
  pub after : IsAssignment (sizes plant) step.after
