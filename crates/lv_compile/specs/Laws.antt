-- What clauses say of truth values of their booleans, and that a formula's clauses say what the formula says.
use Rattle.std.specs.Prelude.{◌≡◌, ◌+◌, ◌<◌, ◌≤◌, ℕ, Bool, true, nat_eq, List, length, take, Some, slice_get, slice_index_or}
use Rattle.std.specs.List.{sum, list_all, list_any}
use Rattle.lv_base.specs.declared.limits.TheConstants.{MODEL_CLAUSES}
use Rattle.lv_base.specs.declared.ids.Lit.{Lit}
use Rattle.lv_base.specs.declared.ids.ValId.{ValId}
use Rattle.lv_base.specs.declared.ids.MoveId.{MoveId}
use Rattle.lv_clauses.specs.Literals.{same_truth, is_clause}
use Rattle.lv_base.specs.declared.range.Range.{Range}
use Rattle.lv_base.specs.Tree.{Tree, truth_of, number_of}
use Rattle.lv_base.specs.Fits.{fits, is_same_sort}
use Rattle.lv_base.specs.Counts.{size_at}
use Rattle.lv_model.specs.Counts.{has_count, formula_count, plant_count}
use Rattle.lv_model.specs.declared.plant.Plant.{Plant}
use Rattle.lv_model.specs.Lists.{sizes, move_counts}
use Rattle.lv_model.specs.WellFormed.{is_well_formed}
use Rattle.lv_model.specs.Meaning.{is_feasible, is_step}
use Rattle.lv_compile.specs.Booleans.{Booleans, value_bool, booleans_now, booleans_next, first_choice, bool_count}
use Rattle.lv_compile.specs.FormulaClauses.{Clauses, size_of, formula_clauses}
use Rattle.lv_compile.specs.ModelClauses.{copy_clauses, model_clauses}
use Rattle.lv_compile.specs.Cleaning.{cleaned}

-- the truth values, one for each boolean, make the literal true
abbrev pub literal_is_true : (ℕ → Bool) → Lit → Bool
literal_is_true truth l = same_truth (truth l.var.0) l.sign

abbrev pub clause_is_true : (ℕ → Bool) → List Lit → Bool
clause_is_true truth c = list_any (literal_is_true truth) c

-- they make each of the clauses true
abbrev pub are_true : (ℕ → Bool) → Clauses → Bool
are_true truth cs = list_all (clause_is_true truth) cs

-- of the booleans of each variable exactly the one of its value in the assignment is true
pub record Encode (truth : ℕ → Bool) (b : Booleans) (a : List ValId) : Type 0 where
  pub in_range : (x : ℕ) → x < length b.sizes → number_of a x < size_of b x
  pub values : (x v : ℕ) → x < length b.sizes → v < size_of b x → truth (value_bool b x v) ≡ nat_eq (number_of a x) v

-- the variables from base on have values as the ranges say, and those of one sort equally many
pub record HaveBooleans (ranges : List Range) (b : Booleans) (base : ℕ) : Type 0 where
  pub within : (x : ℕ) (r : Range) → slice_get ranges x ≡ Some r → base + x < length b.sizes
  pub size : (x : ℕ) (r : Range) → slice_get ranges x ≡ Some r → size_of b (base + x) ≡ r.size
  pub alike : (x y : ℕ) (r s : Range) → slice_get ranges x ≡ Some r → slice_get ranges y ≡ Some s → is_same_sort r.sort s.sort ≡ true → r.size ≡ s.size

-- where truth values encode an assignment, they make the clauses of a formula in a sign true exactly where the formula has
-- that truth
abbrev pub FormulaClausesAreExact : Type 0
FormulaClausesAreExact =
    (ranges : List Range) (b : Booleans) (base : ℕ) → HaveBooleans ranges b base → (truth : ℕ → Bool) (a : List ValId) → Encode truth b a
    → (f : Tree) → fits ranges f ≡ true → (sign : Bool) → are_true truth (formula_clauses b base sign f) ≡ same_truth (truth_of a base f) sign

-- where truth values encode an assignment, they make the clauses of one copy true exactly where the assignment is feasible
abbrev pub CopyClausesAreExact : Type 0
CopyClausesAreExact =
    (plant : Plant) → is_well_formed plant ≡ true → (b : Booleans) → b.sizes ≡ sizes plant → (truth : ℕ → Bool) (a : List ValId) → Encode truth b a
    → are_true truth (copy_clauses b plant) ≡ is_feasible plant a

-- the number of a part's move in a full choice
abbrev pub move_number : List MoveId → ℕ → ℕ
move_number ms k = (slice_index_or ms k (record { 0 = 0 })).0

-- of parts that have so many moves each: of the booleans of each part's moves, the first of which is that of the first part's
-- first move, exactly the one of its move in the full choice is true
pub record EncodeMoves (truth : ℕ → Bool) (first : ℕ) (counts : List ℕ) (ms : List MoveId) : Type 0 where
  pub each : length ms ≡ length counts
  pub in_range : (k : ℕ) → k < length counts → move_number ms k < slice_index_or counts k 0
  pub values : (k n : ℕ) → k < length counts → n < slice_index_or counts k 0 → truth (first + sum (take k counts) + n) ≡ nat_eq (move_number ms k) n

-- truth values that encode assignments before and after and a full choice make the clauses of the plant true exactly where these
-- are a step
abbrev pub ModelClausesAreExact : Type 0
ModelClausesAreExact =
    (plant : Plant) → is_well_formed plant ≡ true → (truth : ℕ → Bool) (a b : List ValId) (ms : List MoveId) → Encode truth (booleans_now plant) a
    → Encode truth (booleans_next plant) b → EncodeMoves truth (first_choice plant) (move_counts plant) ms
    → are_true truth (model_clauses plant) ≡ is_step plant a b ms

-- assignments before and after and a full choice that the truth values encode, and that are a step
pub record IsEncodedStep (plant : Plant) (truth : ℕ → Bool) : Type 0 where
  pub before : List ValId
  pub after : List ValId
  pub moves : List MoveId
  pub whole_before : length before ≡ length (sizes plant)
  pub whole_after : length after ≡ length (sizes plant)
  pub now : Encode truth (booleans_now plant) before
  pub next : Encode truth (booleans_next plant) after
  pub choice : EncodeMoves truth (first_choice plant) (move_counts plant) moves
  pub step : is_step plant before after moves ≡ true

-- truth values that make the clauses of the plant true encode a step
abbrev pub SatisfyingIsAStep : Type 0
SatisfyingIsAStep = (plant : Plant) → is_well_formed plant ≡ true → (truth : ℕ → Bool) → are_true truth (model_clauses plant) ≡ true → IsEncodedStep plant truth

-- a formula's clauses in a sign are no more than its count, where no variable has more values than the sizes say
abbrev pub FormulaCountBounds : Type 0
FormulaCountBounds =
    (ranges : List Range) (b : Booleans) (base : ℕ) (sizes : List ℕ) → ((x : ℕ) (r : Range) → slice_get ranges x ≡ Some r → size_of b (base + x) ≤ size_at sizes x)
    → (f : Tree) → fits ranges f ≡ true → (sign : Bool) → has_count sizes sign f ≡ true → length (formula_clauses b base sign f) ≤ formula_count sizes sign f

-- a well-formed plant comes to no more clauses than its count, and so to no more than the limit
pub record PlantCountBounds : Type 0 where
  pub counted : (plant : Plant) → is_well_formed plant ≡ true → length (model_clauses plant) ≤ plant_count plant
  pub within : (plant : Plant) → is_well_formed plant ≡ true → plant_count plant ≤ MODEL_CLAUSES

-- cleaning changes nothing that clauses say
abbrev pub CleaningKeepsMeaning : Type 0
CleaningKeepsMeaning = (truth : ℕ → Bool) (cs : Clauses) → are_true truth (cleaned cs) ≡ are_true truth cs

-- the clauses of a well-formed plant are clauses over its booleans: each literal is of one of them, and none stands twice
abbrev pub ModelClausesAreClauses : Type 0
ModelClausesAreClauses = (plant : Plant) → is_well_formed plant ≡ true → list_all (is_clause (bool_count plant)) (model_clauses plant) ≡ true
