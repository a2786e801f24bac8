-- A trial of candidates as contracts see it, and what it asks.
use Rattle.std.specs.Prelude.{◌≡◌}
use Rattle.lv_model.specs.declared.plant.Plant.{Plant}
use Rattle.lv_model.specs.Lists.{sizes}
use Rattle.lv_compile.specs.Booleans.{Booleans, booleans_next}
use Rattle.lv_clauses.specs.ClauseMap.{ClauseMap}
use Rattle.lv_system.specs.System.{SystemValue, IsSystemOf}
use Rattle.lv_meaning.specs.declared.facts.Observation.{Observation}
use Rattle.lv_meaning.specs.declared.facts.Facts.{Facts}
use Rattle.lv_meaning.specs.Facts.{HasValue}
use Rattle.lv_meaning.specs.Possible.{is_possible}
use Rattle.lv_asking.specs.Asking.{AskingValue, Decides, beside}
use Rattle.lv_asking.specs.Lemmas.{HaveSameModels}
use Rattle.lv_ident.specs.Literals.{observed_literal, plant_choices}
use Rattle.lv_ident.specs.Probing.{with_next}

-- the plant, and the facts that candidates are tried under
pub record TrialValue : Type 0 where
  pub plant : Plant
  pub facts : Facts

-- what is asked has the plant's moves as choices, and tells what is possible under the facts; beside what an observation after the step
-- says, it tells what is possible where this is observed too
pub record TellsFacts (plant : Plant) (facts : Facts) (a : AskingValue) : Type 0 where
  pub choices : a.choices ≡ plant_choices plant
  pub decides : Decides a (is_possible plant facts)
  pub seeing : (o : Observation) → HasValue (sizes plant) o → Decides (beside (observed_literal (booleans_next plant) o) a) (is_possible plant (with_next facts o))

-- the solver's clauses are satisfied by the values that satisfy the plant's
pub record IsSolverOf (plant : Plant) (set : ClauseMap) : Type 0 where
  pub system : SystemValue
  pub system_of : IsSystemOf plant system
  pub models : HaveSameModels system.set set

-- what is asked tells what the facts allow, of a solver of the plant, and the booleans of the values after the step are the plant's
pub record IsTrial (plant : Plant) (facts : Facts) (after : Booleans) (a : AskingValue) : Type 0 where
  pub after_is : after ≡ booleans_next plant
  pub tells : TellsFacts plant facts a
  pub solver : IsSolverOf plant a.set
