-- How many things of a kind a plant has, as the code keeps it.
use Rattle.std.specs.Prelude.{◌≡◌, ◌≤◌, All, length}
use Rattle.lv_base.specs.declared.limits.TheConstants.{PARTS, VARIABLES}
use Rattle.lv_model.specs.declared.plant.Plant.{Plant}
use Rattle.lv_model.specs.Lists.{sizes, move_counts, controls, IsFew}
use Rattle.lv_meaning.specs.Commands.{control_sizes}
use Rattle.lv_cert_meaning.specs.Counting.{mode_counts}
use Rattle.lv_cert_meaning.specs.declared.counts.Counts.{Counts}

-- they are the plant's, each within the limits of a model
pub record IsCountsOf (plant : Plant) (c : Counts) : Type 0 where
  pub values_are : c.values.items ≡ sizes plant
  pub modes_are : c.modes.items ≡ mode_counts plant
  pub controlled_are : c.controlled.items ≡ control_sizes plant
  pub moves_are : c.moves.items ≡ move_counts plant
  pub controls_are : c.controls.items ≡ controls plant
  pub few_values : All IsFew c.values.items
  pub few_modes : All IsFew c.modes.items
  pub few_controlled : All IsFew c.controlled.items
  pub few_moves : All IsFew c.moves.items
  pub few_variables : length c.values.items ≤ VARIABLES
  pub few_parts : length c.moves.items ≤ PARTS
  pub few_controls : length c.controlled.items ≤ VARIABLES
