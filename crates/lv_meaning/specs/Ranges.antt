-- What is asked of the numbers of an aim: that they are of the plant.
use Rattle.std.specs.Prelude.{Bool, true, false, ◌&&◌, List, [], ◌∷◌, All, IsTrue}
use Rattle.lv_base.specs.declared.ids.ValId.{ValId}
use Rattle.lv_base.specs.declared.range.Range.{Range}
use Rattle.lv_base.specs.Tree.{Tree}
use Rattle.lv_base.specs.Fits.{fits, has_value}
use Rattle.lv_model.specs.declared.plant.Plant.{Plant}
use Rattle.lv_model.specs.declared.plant.Part.{Part}
use Rattle.lv_model.specs.declared.state.TrackedState.{TrackedState}
use Rattle.lv_model.specs.Ranges.{plant_ranges}
use Rattle.lv_meaning.specs.declared.facts.Observation.{Observation}
use Rattle.lv_meaning.specs.declared.aim.Aim.{Aim}

-- one mode for each part, and the part's type has it
abbrev pub modes_fit : List Range → List Part → List ValId → Bool
modes_fit ranges [] [] = true
modes_fit ranges [] (v ∷ vs) = false
modes_fit ranges (p ∷ ps) [] = false
modes_fit ranges (p ∷ ps) (v ∷ vs) = has_value ranges p.first.0 v.0 && modes_fit ranges ps vs

pub record StateFits (plant : Plant) (s : TrackedState) : Type 0 where
  pub modes : IsTrue (modes_fit (plant_ranges plant) plant.parts s.state.modes)

-- a variable of the plant with a value that it has
pub record ObservationFits (plant : Plant) (o : Observation) : Type 0 where
  pub value : IsTrue (has_value (plant_ranges plant) o.var.0 o.val.0)

-- each equation compares a variable of the plant with one of its values, or two variables of one domain
pub record GoalFits (plant : Plant) (goal : Tree) : Type 0 where
  pub equations : IsTrue (fits (plant_ranges plant) goal)

pub record AimFits (plant : Plant) (aim : Aim) : Type 0 where
  pub tracked : All (StateFits plant) aim.tracked
  pub present : All (ObservationFits plant) aim.present
  pub goals : All (GoalFits plant) aim.goals
