-- The clauses of several steps, one behind the other: a copy of the variables before the first step and one after each, then the
-- moves of each step, which leads from its copy to the next. A window of one step is the plant's own list.
use Rattle.std.specs.Prelude.{◌≡◌, ℕ, ◌+◌, zero, suc, [], ◌++◌}
use Rattle.std.specs.List.{sum}
use Rattle.lv_model.specs.declared.plant.Plant.{Plant}
use Rattle.lv_model.specs.Lists.{sizes, move_counts}
use Rattle.lv_compile.specs.Booleans.{booleans_from}
use Rattle.lv_compile.specs.FormulaClauses.{Clauses}
use Rattle.lv_compile.specs.Cleaning.{cleaned}
use Rattle.lv_compile.specs.ModelClauses.{copy_clauses, choices_clauses, model_clauses}

-- the boolean behind so many copies, of which the first begins with this one
abbrev pub past_copies : Plant → ℕ → ℕ → ℕ
past_copies plant first zero = first
past_copies plant first (suc n) = past_copies plant (first + sum (sizes plant)) n

-- the boolean behind the moves of so many steps, of which the first begin with this one
abbrev pub past_moves : Plant → ℕ → ℕ → ℕ
past_moves plant choice zero = choice
past_moves plant choice (suc n) = past_moves plant (choice + sum (move_counts plant)) n

-- of a window of so many steps the boolean of the first part's first move in the first step
abbrev pub window_choice : Plant → ℕ → ℕ
window_choice plant steps = past_copies plant 0 (suc steps)

-- how many booleans it has
abbrev pub window_bools : Plant → ℕ → ℕ
window_bools plant steps = past_moves plant (window_choice plant steps) steps

-- so many copies
abbrev pub copies_clauses : Plant → ℕ → ℕ → Clauses
copies_clauses plant first zero = []
copies_clauses plant first (suc n) = copy_clauses (booleans_from plant first) plant ++ copies_clauses plant (first + sum (sizes plant)) n

-- the moves of so many steps, of which the first leads from the copy that begins here
abbrev pub steps_clauses : Plant → ℕ → ℕ → ℕ → Clauses
steps_clauses plant first choice zero = []
steps_clauses plant first choice (suc n) =
    choices_clauses (booleans_from plant first) (booleans_from plant (first + sum (sizes plant))) plant.types choice plant.parts
    ++ steps_clauses plant (first + sum (sizes plant)) (choice + sum (move_counts plant)) n

-- as the table gives them
abbrev pub raw_window : Plant → ℕ → Clauses
raw_window plant steps = copies_clauses plant 0 (suc steps) ++ steps_clauses plant 0 (window_choice plant steps) steps

-- the clauses of a window of so many steps
abbrev pub window_clauses : Plant → ℕ → Clauses
window_clauses plant steps = cleaned (raw_window plant steps)

-- of one step they are the plant's
abbrev pub OneStepIsTheModel : Type 0
OneStepIsTheModel = (plant : Plant) → window_clauses plant 1 ≡ model_clauses plant
