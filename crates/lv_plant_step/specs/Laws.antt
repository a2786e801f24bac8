-- What the plant's step is, in the subject's own words, and where it leads after a recovery.
use Rattle.std.specs.Prelude.{◌≡◌, ℕ, true, false, List, ◌++◌, length, map, replicate, Some, None, is_some, Contains}
use Rattle.lv_base.specs.declared.ids.MoveId.{MoveId}
use Rattle.lv_model.specs.declared.plant.Plant.{Plant}
use Rattle.lv_model.specs.declared.state.TrackedState.{TrackedState}
use Rattle.lv_meaning.specs.Facts.{meets, now_facts}
use Rattle.lv_meaning.specs.Possible.{value}
use Rattle.lv_meaning.specs.declared.aim.Aim.{Aim}
use Rattle.lv_meaning.specs.Commands.{is_command_set}
use Rattle.lv_meaning.specs.Recovers.{has_modes, meets_goals, recovers}
use Rattle.lv_system.specs.Laws.{IsWholeStep}
use Rattle.lv_plant_step.specs.declared.asked.Asked.{Asked}
use Rattle.lv_plant_step.specs.declared.asked.PlantStep.{PlantStep}
use Rattle.lv_plant_step.specs.FirstList.{comes_before}
use Rattle.lv_plant_step.specs.PlantSteps.{are_as_named, plant_step}

-- a value for each variable before and after and a move for each part, which are a step of the system; before it the parts are in their
-- modes and what is commanded and observed is so, and each part makes the move that is named of it, or else no fault
pub record IsPlantStep (plant : Plant) (asked : Asked) (s : PlantStep) : Type 0 where
  pub moves : List MoveId
  pub step : IsWholeStep plant s.before s.after moves
  pub modes : has_modes plant.parts asked.modes s.before ≡ true
  pub facts : meets s.before (now_facts plant asked.facts) ≡ true
  pub named : are_as_named plant.types plant.parts asked.faults moves ≡ true

-- the plant's step is such a step, no such step has values that come before its own, and there is none exactly where none is such a step
pub record PlantStepIsFirst : Type 0 where
  pub is : (plant : Plant) (asked : Asked) (s : PlantStep) → plant_step plant asked ≡ Some s → IsPlantStep plant asked s
  pub first : (plant : Plant) (asked : Asked) (s other : PlantStep) → plant_step plant asked ≡ Some s → IsPlantStep plant asked other
      → comes_before (other.before ++ other.after) (s.before ++ s.after) ≡ false
  pub none : (plant : Plant) (asked : Asked) (s : PlantStep) → plant_step plant asked ≡ None → ¬ IsPlantStep plant asked s
  pub found : (plant : Plant) (asked : Asked) (s : PlantStep) → IsPlantStep plant asked s → is_some (plant_step plant asked) ≡ true

-- the plant is in a tracked state, from each of which these values of the controls are sure to reach the goals; they are commanded, what
-- is observed now is what the recovery was asked for with, and no fault is named
pub record IsApplied (plant : Plant) (aim : Aim) (u : List ℕ) (s : TrackedState) (asked : Asked) : Type 0 where
  pub commands : is_command_set plant u ≡ true
  pub sure : recovers plant aim u ≡ true
  pub tracked : Contains aim.tracked s
  pub modes : asked.modes ≡ s.state.modes
  pub controls : asked.facts.controls ≡ map value u
  pub present : asked.facts.present ≡ aim.present
  pub no_fault : asked.faults ≡ replicate (length plant.parts) None

-- then there is a step, and after it all goals are true
pub record AppliedRecoveryReaches : Type 0 where
  pub steps : (plant : Plant) (aim : Aim) (u : List ℕ) (s : TrackedState) (asked : Asked) → IsApplied plant aim u s asked → is_some (plant_step plant asked) ≡ true
  pub reaches : (plant : Plant) (aim : Aim) (u : List ℕ) (s : TrackedState) (asked : Asked) (step : PlantStep) → IsApplied plant aim u s asked
      → plant_step plant asked ≡ Some step → meets_goals aim.goals step.after ≡ true
