-- The system's clauses are made true by steps and by nothing else.
use Rattle.std.specs.Prelude.{◌≡◌, ◌<◌, ℕ, Bool, true, List, length, slice_index_or}
use Rattle.lv_base.specs.declared.ids.ValId.{ValId}
use Rattle.lv_base.specs.declared.ids.MoveId.{MoveId}
use Rattle.lv_clauses.specs.ClauseMap.{satisfies}
use Rattle.lv_base.specs.Tree.{number_of}
use Rattle.lv_model.specs.declared.plant.Plant.{Plant}
use Rattle.lv_model.specs.Lists.{sizes, move_counts}
use Rattle.lv_model.specs.WellFormed.{is_well_formed}
use Rattle.lv_model.specs.Meaning.{is_step}
use Rattle.lv_compile.specs.Booleans.{booleans_now, booleans_next, first_choice, bool_count}
use Rattle.lv_compile.specs.Laws.{Encode, EncodeMoves, move_number, IsEncodedStep}
use Rattle.lv_system.specs.System.{SystemValue, IsSystemOf}
use Rattle.lv_system.specs.Encoding.{truth_in, encoded}

-- a value for each variable, one of those that it has
pub record IsAssignment (sizes : List ℕ) (a : List ValId) : Type 0 where
  pub whole : length a ≡ length sizes
  pub in_range : (x : ℕ) → x < length sizes → number_of a x < slice_index_or sizes x 0

-- a move for each part, one of those that it has
pub record IsFullChoice (counts : List ℕ) (ms : List MoveId) : Type 0 where
  pub whole : length ms ≡ length counts
  pub in_range : (k : ℕ) → k < length counts → move_number ms k < slice_index_or counts k 0

-- an assignment before and one after, a full choice, and together a step
pub record IsWholeStep (plant : Plant) (a b : List ValId) (ms : List MoveId) : Type 0 where
  pub before : IsAssignment (sizes plant) a
  pub after : IsAssignment (sizes plant) b
  pub moves : IsFullChoice (move_counts plant) ms
  pub step : is_step plant a b ms ≡ true

-- truth values, one for each boolean, that encode these and make every clause present true
pub record IsModelOf (plant : Plant) (s : SystemValue) (a b : List ValId) (ms : List MoveId) (values : List Bool) : Type 0 where
  pub whole : length values ≡ bool_count plant
  pub satisfied : satisfies values s.set.slots ≡ true
  pub now : Encode (truth_in values) (booleans_now plant) a
  pub next : Encode (truth_in values) (booleans_next plant) b
  pub choice : EncodeMoves (truth_in values) (first_choice plant) (move_counts plant) ms

-- truth values that make every clause present true encode a step
abbrev pub ModelIsAStep : Type 0
ModelIsAStep =
    (plant : Plant) → is_well_formed plant ≡ true → (s : SystemValue) → IsSystemOf plant s → (values : List Bool) → length values ≡ s.set.bools
    → satisfies values s.set.slots ≡ true → IsEncodedStep plant (truth_in values)

-- what encodes a step makes every clause present true
abbrev pub StepHasAModel : Type 0
StepHasAModel =
    (plant : Plant) → is_well_formed plant ≡ true → (s : SystemValue) → IsSystemOf plant s → (a b : List ValId) (ms : List MoveId) → IsWholeStep plant a b ms
    → IsModelOf plant s a b ms (encoded plant a b ms)
