-- The clauses of several steps of a plant, one behind the other, in a set, with the numbering of its booleans beside it.
use Rattle.std.specs.Prelude.{◌≡◌, ℕ, ◌+◌, zero, suc, Bool, true, List, [], ◌∷◌, ◌++◌, length}
use Rattle.std.specs.List.{sum}
use Rattle.lv_base.specs.declared.ids.ClauseId.{ClauseId}
use Rattle.lv_base.specs.declared.ids.ValId.{ValId}
use Rattle.lv_clauses.specs.ClauseMap.{ClauseMap, satisfies}
use Rattle.lv_model.specs.declared.plant.Plant.{Plant}
use Rattle.lv_model.specs.Lists.{sizes, move_counts}
use Rattle.lv_model.specs.WellFormed.{is_well_formed}
use Rattle.lv_model.specs.Meaning.{is_feasible}
use Rattle.lv_compile.specs.Booleans.{Booleans, booleans_from}
use Rattle.lv_compile.specs.Laws.{Encode, EncodeMoves}
use Rattle.lv_compile.specs.Windows.{window_choice, window_bools, window_clauses}
use Rattle.lv_compile.specs.WindowLaws.{Further, all_moves, counts_of, LeadOn, EncodeOn, IsEncodedWindow}
use Rattle.lv_system.specs.Choices.{Choices}
use Rattle.lv_system.specs.Numbering.{AreNumbered}
use Rattle.lv_system.specs.Encoding.{truth_in, value_rows, move_rows}
use Rattle.lv_system.specs.Laws.{IsAssignment, IsFullChoice}

-- so many copies of the variables, the first of which begins with this boolean
abbrev pub copies_from : Plant → ℕ → ℕ → List Booleans
copies_from plant first zero = []
copies_from plant first (suc n) = booleans_from plant first ∷ copies_from plant (first + sum (sizes plant)) n

-- the booleans of the choices of so many steps, step by step, part by part
abbrev pub window_choices : Plant → ℕ → Choices
window_choices plant steps = record { first = window_choice plant steps; counts = counts_of plant steps }

-- the set, the booleans of the variables before the first step and after each, and those of the choices
pub record WindowValue : Type 0 where
  pub set : ClauseMap
  pub copies : List Booleans
  pub choices : Choices

-- the system of so many steps of the plant: just its clauses are present, over its booleans
pub record IsWindowOf (plant : Plant) (steps : ℕ) (s : WindowValue) : Type 0 where
  pub bools : s.set.bools ≡ window_bools plant steps
  pub ids : List ClauseId
  pub numbered : AreNumbered (window_clauses plant steps) s.set.slots ids
  pub copies : s.copies ≡ copies_from plant 0 (suc steps)
  pub choices : s.choices ≡ window_choices plant steps

-- truth values that make every clause present true encode steps, one behind the other
abbrev pub ModelIsAWindow : Type 0
ModelIsAWindow =
    (plant : Plant) → is_well_formed plant ≡ true → (steps : ℕ) (s : WindowValue) → IsWindowOf plant steps s → (values : List Bool) → satisfies values s.set.slots ≡ true
    → IsEncodedWindow plant steps (truth_in values)

-- a move for each part in each step, and a value for each variable after it
abbrev pub AreWhole : Plant → List Further → Type 0
AreWhole plant [] = Unit {0}
AreWhole plant (f ∷ fs) = IsAssignment (sizes plant) f.after × IsFullChoice (move_counts plant) f.moves × AreWhole plant fs

-- the values after each step, and the moves of each step, as rows of truth values
abbrev pub after_rows : Plant → List Further → List Bool
after_rows plant [] = []
after_rows plant (f ∷ fs) = value_rows (sizes plant) f.after ++ after_rows plant fs

abbrev pub moves_rows : Plant → List Further → List Bool
moves_rows plant [] = []
moves_rows plant (f ∷ fs) = move_rows (move_counts plant) f.moves ++ moves_rows plant fs

-- the values before the first step, those after each, the moves of each
abbrev pub encoded_window : Plant → List ValId → List Further → List Bool
encoded_window plant start on = value_rows (sizes plant) start ++ (after_rows plant on ++ moves_rows plant on)

-- truth values, one for each boolean, that encode these and make every clause present true
pub record IsModelOfWindow (plant : Plant) (s : WindowValue) (start : List ValId) (on : List Further) (values : List Bool) : Type 0 where
  pub whole : length values ≡ window_bools plant (length on)
  pub satisfied : satisfies values s.set.slots ≡ true
  pub now : Encode (truth_in values) (booleans_from plant 0) start
  pub further : EncodeOn plant (truth_in values) 0 (window_choice plant (length on)) on
  pub choices : EncodeMoves (truth_in values) (window_choice plant (length on)) (counts_of plant (length on)) (all_moves on)

-- steps, one behind the other, have truth values that make every clause present true
abbrev pub WindowHasAModel : Type 0
WindowHasAModel =
    (plant : Plant) → is_well_formed plant ≡ true → (s : WindowValue) (start : List ValId) (on : List Further) → IsWindowOf plant (length on) s
    → IsAssignment (sizes plant) start → AreWhole plant on → is_feasible plant start ≡ true → LeadOn plant start on → IsModelOfWindow plant s start on (encoded_window plant start on)
