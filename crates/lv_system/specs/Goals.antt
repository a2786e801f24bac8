-- The clauses of a goal, a formula that is to hold after the step, in a sign.
use Rattle.std.specs.Prelude.{◌≡◌, ℕ, Bool, true, List}
use Rattle.std.specs.List.{list_all}
use Rattle.lv_base.specs.declared.ids.ValId.{ValId}
use Rattle.lv_clauses.specs.Literals.{same_truth, is_clause}
use Rattle.lv_base.specs.Tree.{Tree, truth_of}
use Rattle.lv_base.specs.Fits.{fits}
use Rattle.lv_model.specs.declared.plant.Plant.{Plant}
use Rattle.lv_model.specs.Ranges.{plant_ranges}
use Rattle.lv_compile.specs.Booleans.{booleans_next, bool_count}
use Rattle.lv_compile.specs.FormulaClauses.{Clauses, formula_clauses, speaks_of}
use Rattle.lv_compile.specs.Cleaning.{cleaned}
use Rattle.lv_compile.specs.Laws.{are_true, Encode}
use Rattle.lv_system.specs.System.{SystemValue, IsSystemOf}

-- the goal's equations speak of values that have booleans
abbrev pub goal_speaks : SystemValue → Tree → Bool
goal_speaks s goal = speaks_of s.after 0 goal

abbrev pub goal_clauses : SystemValue → Bool → Tree → Clauses
goal_clauses s sign goal = cleaned (formula_clauses s.after 0 sign goal)

-- a goal that fits what the plant's variables range over speaks of values that have booleans; its clauses are clauses over the
-- plant's booleans, and are true exactly where it has that truth after the step
pub record GoalClausesAreExact : Type 0 where
  pub speaks : (plant : Plant) (s : SystemValue) → IsSystemOf plant s → (goal : Tree) → fits (plant_ranges plant) goal ≡ true → goal_speaks s goal ≡ true
  pub clauses : (plant : Plant) (s : SystemValue) → IsSystemOf plant s → (goal : Tree) → fits (plant_ranges plant) goal ≡ true → (sign : Bool)
      → list_all (is_clause (bool_count plant)) (goal_clauses s sign goal) ≡ true
  pub exact : (plant : Plant) (s : SystemValue) → IsSystemOf plant s → (truth : ℕ → Bool) (b : List ValId) → Encode truth (booleans_next plant) b
      → (goal : Tree) → fits (plant_ranges plant) goal ≡ true → (sign : Bool) → are_true truth (goal_clauses s sign goal) ≡ same_truth (truth_of b 0 goal) sign
