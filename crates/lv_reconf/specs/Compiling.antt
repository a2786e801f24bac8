-- What a recovery keeps of a compiled model, and what clauses say of a goal.
use Rattle.std.specs.Prelude.{◌≡◌, Bool, List, All}
use Rattle.std.specs.List.{list_all}
use Rattle.lv_base.specs.declared.ids.Lit.{Lit}
use Rattle.lv_base.specs.declared.ids.ValId.{ValId}
use Rattle.lv_base.specs.declared.ids.VarId.{VarId}
use Rattle.lv_clauses.specs.Literals.{same_truth, clause_holds}
use Rattle.lv_base.specs.Tree.{Tree, truth_of}
use Rattle.lv_model.specs.declared.plant.Plant.{Plant}
use Rattle.lv_model.specs.Lists.{controls}
use Rattle.lv_compile.specs.Booleans.{Booleans, booleans_now, booleans_next, bool_count}
use Rattle.lv_compile.specs.Laws.{Encode}
use Rattle.lv_system.specs.Choices.{Choices}
use Rattle.lv_system.specs.Encoding.{truth_in}
use Rattle.lv_system.specs.Numbering.{IsOver}
use Rattle.lv_system.specs.System.{SystemValue, IsSystemOf}
use Rattle.lv_reconf.specs.Narrowing.{choices_of_plant}

-- the controls and the booleans are the plant's, which has a system
pub record IsCompiled (plant : Plant) (vars : List VarId) (before after : Booleans) (choices : Choices) : Type 0 where
  pub system : SystemValue
  pub of_plant : IsSystemOf plant system
  pub vars_are : vars ≡ controls plant
  pub now_are : before ≡ booleans_now plant
  pub next_are : after ≡ booleans_next plant
  pub choices_are : choices ≡ choices_of_plant plant

-- clauses over the plant's booleans, which are all true exactly where the goal has that truth after the step
pub record SayGoal (plant : Plant) (goal : Tree) (sign : Bool) (clauses : List (List Lit)) : Type 0 where
  pub over : All (IsOver (bool_count plant)) clauses
  pub exact : (values : List Bool) (b : List ValId) → Encode (truth_in values) (booleans_next plant) b → list_all (clause_holds values) clauses ≡ same_truth (truth_of b 0 goal) sign
