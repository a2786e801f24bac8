-- A trial of trajectories as contracts see it, and what it keeps.
use Rattle.std.specs.Prelude.{◌≡◌, List, length}
use Rattle.lv_model.specs.declared.plant.Plant.{Plant}
use Rattle.lv_compile.specs.WindowLaws.{counts_of}
use Rattle.lv_meaning.specs.declared.facts.Facts.{Facts}
use Rattle.lv_asking.specs.Asking.{AskingValue, Decides}
use Rattle.lv_window.specs.Possible.{is_possible_over}

-- the plant, and what is known of each step
pub record WindowTrialValue : Type 0 where
  pub plant : Plant
  pub steps : List Facts

-- what is asked has a choice for each part of each step, and tells what is possible over the steps
pub record TellsWindow (plant : Plant) (steps : List Facts) (a : AskingValue) : Type 0 where
  pub counts : a.choices.counts ≡ counts_of plant (length steps)
  pub decides : Decides a (is_possible_over plant steps)
