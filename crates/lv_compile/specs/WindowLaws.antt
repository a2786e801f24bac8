-- What the clauses of a window say: they are true exactly where assignments and full choices are encoded that are steps, one behind the
-- other.
use Rattle.std.specs.Prelude.{◌≡◌, ℕ, ◌+◌, zero, suc, Bool, true, List, [], ◌∷◌, ◌++◌, length}
use Rattle.std.specs.List.{sum, list_all}
use Rattle.lv_base.specs.declared.ids.ValId.{ValId}
use Rattle.lv_base.specs.declared.ids.MoveId.{MoveId}
use Rattle.lv_clauses.specs.Literals.{is_clause}
use Rattle.lv_model.specs.declared.plant.Plant.{Plant}
use Rattle.lv_model.specs.Lists.{sizes, move_counts}
use Rattle.lv_model.specs.WellFormed.{is_well_formed}
use Rattle.lv_model.specs.Meaning.{is_feasible, is_step}
use Rattle.lv_compile.specs.Booleans.{booleans_from}
use Rattle.lv_compile.specs.Laws.{are_true, Encode, EncodeMoves}
use Rattle.lv_compile.specs.Windows.{window_choice, window_bools, window_clauses}

-- one step further: the moves, and the assignment after them
pub record Further : Type 0 where
  pub moves : List MoveId
  pub after : List ValId

-- the moves of all these steps, one behind the other
abbrev pub all_moves : List Further → List MoveId
all_moves [] = []
all_moves (f ∷ fs) = f.moves ++ all_moves fs

-- so many steps' counts of moves
abbrev pub counts_of : Plant → ℕ → List ℕ
counts_of plant zero = []
counts_of plant (suc n) = move_counts plant ++ counts_of plant n

-- the step from the assignment is a step of the plant
pub record IsFurther (plant : Plant) (a : List ValId) (f : Further) : Type 0 where
  pub whole : length f.after ≡ length (sizes plant)
  pub step : is_step plant a f.after f.moves ≡ true

-- each step leads on from where the one before it led
abbrev pub LeadOn : Plant → List ValId → List Further → Type 0
LeadOn plant a [] = Unit {0}
LeadOn plant a (f ∷ fs) = IsFurther plant a f × LeadOn plant f.after fs

-- the truth values encode the steps' moves and the assignments after them
abbrev pub EncodeOn : Plant → (ℕ → Bool) → ℕ → ℕ → List Further → Type 0
EncodeOn plant truth first choice [] = Unit {0}
EncodeOn plant truth first choice (f ∷ fs) =
    Encode truth (booleans_from plant (first + sum (sizes plant))) f.after
    × EncodeMoves truth choice (move_counts plant) f.moves
    × EncodeOn plant truth (first + sum (sizes plant)) (choice + sum (move_counts plant)) fs

-- an assignment and steps from there, each of the plant, that the truth values encode
pub record IsEncodedWindow (plant : Plant) (steps : ℕ) (truth : ℕ → Bool) : Type 0 where
  pub start : List ValId
  pub on : List Further
  pub whole : length start ≡ length (sizes plant)
  pub many : length on ≡ steps
  pub lead : LeadOn plant start on
  pub now : Encode truth (booleans_from plant 0) start
  pub further : EncodeOn plant truth 0 (window_choice plant steps) on
  pub choices : EncodeMoves truth (window_choice plant steps) (counts_of plant steps) (all_moves on)

-- truth values that make the clauses of a window true encode as many steps
abbrev pub SatisfyingIsAWindow : Type 0
SatisfyingIsAWindow =
    (plant : Plant) → is_well_formed plant ≡ true → (steps : ℕ) (truth : ℕ → Bool) → are_true truth (window_clauses plant steps) ≡ true → IsEncodedWindow plant steps truth

-- truth values that encode a feasible assignment and steps from there make them true
abbrev pub WindowIsSatisfied : Type 0
WindowIsSatisfied =
    (plant : Plant) → is_well_formed plant ≡ true → (truth : ℕ → Bool) (start : List ValId) (on : List Further) → is_feasible plant start ≡ true → LeadOn plant start on
    → Encode truth (booleans_from plant 0) start → EncodeOn plant truth 0 (window_choice plant (length on)) on → are_true truth (window_clauses plant (length on)) ≡ true

-- the clauses of a window are clauses over its booleans
abbrev pub WindowClausesAreClauses : Type 0
WindowClausesAreClauses = (plant : Plant) → is_well_formed plant ≡ true → (steps : ℕ) → list_all (is_clause (window_bools plant steps)) (window_clauses plant steps) ≡ true
