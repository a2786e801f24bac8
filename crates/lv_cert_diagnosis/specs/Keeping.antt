-- What is kept of a plant and of facts to ask a refuter.
use Rattle.std.specs.Prelude.{◌≡◌, true, List}
use Rattle.lv_base.specs.declared.ids.Lit.{Lit}
use Rattle.lv_model.specs.declared.plant.Plant.{Plant}
use Rattle.lv_model.specs.WellFormed.{is_well_formed}
use Rattle.lv_meaning.specs.declared.facts.Facts.{Facts}
use Rattle.lv_system.specs.System.{SystemValue, IsSystemOf}
use Rattle.lv_ident.specs.Literals.{fact_literals}
use Rattle.lv_meaning.specs.Facts.{FactsInRange}

-- the system is the plant's, and the literals say what the facts say
pub record IsAsking (plant : Plant) (facts : Facts) (system : SystemValue) (stated : List Lit) : Type 0 where
  pub well_formed : is_well_formed plant ≡ true
  pub of_plant : IsSystemOf plant system
  pub fit : FactsInRange plant facts
  pub stated_are : stated ≡ fact_literals plant facts
