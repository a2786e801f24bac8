-- What is made of a model once, for all sessions over it.
use Rattle.std.specs.Prelude.{◌≡◌}
use Rattle.lv_model.specs.declared.plant.Plant.{Plant}
use Rattle.lv_session_state.specs.lv_model_names.declared.lists.Lists.{Lists}
use Rattle.lv_session_state.specs.lv_model_names.Lists.{lists_of}
use Rattle.lv_session_state.specs.lv_system.System.{SystemValue, IsSystemOf}

-- the lists and the clauses are those of the plant
pub record IsCompiled (plant : Plant) (lists : Lists) (system : SystemValue) : Type 0 where
  pub lists_are : lists ≡ lists_of plant
  pub system_is : IsSystemOf plant system
