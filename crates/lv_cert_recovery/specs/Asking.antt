-- What is kept of a plant and an aim to ask a refuter about nominal steps.
use Rattle.std.specs.Prelude.{◌≡◌, true, List}
use Rattle.lv_base.specs.declared.ids.VarId.{VarId}
use Rattle.lv_model.specs.declared.plant.Plant.{Plant}
use Rattle.lv_model.specs.Lists.{controls}
use Rattle.lv_model.specs.WellFormed.{is_well_formed}
use Rattle.lv_meaning.specs.declared.aim.Aim.{Aim}
use Rattle.lv_system.specs.System.{SystemValue, IsSystemOf}
use Rattle.lv_cert_laws.specs.lv_cert_meaning.Certifying.{IsAsked}

-- the plant, the aim, and the plant's system
pub record Asked : Type 0 where
  pub plant : Plant
  pub aim : Aim
  pub system : SystemValue

-- the system is the plant's, the aim is one that the plant can be asked for, and the controls are the plant's
pub record IsAsking (a : Asked) (vars : List VarId) : Type 0 where
  pub well_formed : is_well_formed a.plant ≡ true
  pub of_plant : IsSystemOf a.plant a.system
  pub asked : IsAsked a.plant a.aim
  pub vars_are : vars ≡ controls a.plant
