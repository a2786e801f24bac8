-- The clauses of a plant as a system: in a set, each under a number, with the numbering of its booleans beside it.
use Rattle.std.specs.Prelude.{◌≡◌, ◌≤◌, ℕ, All, List, length, Contains, Some}
use Rattle.lv_base.specs.declared.limits.TheConstants.{MODEL_CLAUSES}
use Rattle.lv_base.specs.declared.ids.Lit.{Lit}
use Rattle.lv_base.specs.declared.ids.ClauseId.{ClauseId}
use Rattle.lv_clauses.specs.ClauseMap.{ClauseMap, Slots, clause_at}
use Rattle.lv_model.specs.declared.plant.Plant.{Plant}
use Rattle.lv_model.specs.Lists.{move_counts}
use Rattle.lv_compile.specs.Booleans.{Booleans, booleans_now, booleans_next, first_choice, bool_count}
use Rattle.lv_compile.specs.ModelClauses.{model_clauses}
use Rattle.lv_system.specs.declared.moment.Moment.{Moment}
use Rattle.lv_system.specs.declared.moment.Moment.TheVariants.{Now, Next}
use Rattle.lv_system.specs.Choices.{Choices}
use Rattle.lv_system.specs.Numbering.{AreNumbered, IsPresent}

-- the set, the numbers of its clauses in order, the booleans of the variables before a step and after it, the boolean of the
-- first part's first move, and how many moves each part has
pub record SystemValue : Type 0 where
  pub set : ClauseMap
  pub ids : List ClauseId
  pub before : Booleans
  pub after : Booleans
  pub first_choice : ℕ
  pub counts : List ℕ

abbrev pub choices_of : SystemValue → Choices
choices_of s = record { first = s.first_choice; counts = s.counts }

abbrev pub booleans_at : SystemValue → Moment → Booleans
booleans_at s Now = s.before
booleans_at s Next = s.after

-- the system of the plant: just its clauses are present, in their order, over its booleans
pub record IsSystemOf (plant : Plant) (s : SystemValue) : Type 0 where
  pub bools : s.set.bools ≡ bool_count plant
  pub total : length s.ids ≡ length (model_clauses plant)
  pub numbered : AreNumbered (model_clauses plant) s.set.slots s.ids
  pub among : (id : ℕ) (c : List Lit) → clause_at s.set.slots id ≡ Some c → Contains (model_clauses plant) c
  pub before : s.before ≡ booleans_now plant
  pub after : s.after ≡ booleans_next plant
  pub first_choice : s.first_choice ≡ first_choice plant
  pub counts : s.counts ≡ move_counts plant

-- the numbers are those of clauses present, and not too many
pub record IsKept (slots : Slots) (ids : List ClauseId) : Type 0 where
  pub few : length ids ≤ MODEL_CLAUSES
  pub present : All (IsPresent slots) ids
