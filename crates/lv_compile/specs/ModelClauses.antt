-- The clauses of a plant, in order: of the variables before the step, of those after it, of the moves of each part.
use Rattle.std.specs.Prelude.{ℕ, ◌+◌, zero, suc, Bool, true, false, List, [], ◌∷◌, ◌++◌, length, map, take, filter, slice_get}
use Rattle.std.specs.List.{flat_map, range_with_len}
use Rattle.std.specs.Option.{option_map_or}
use Rattle.lv_base.specs.declared.ids.Lit.{Lit}
use Rattle.lv_model.specs.declared.plant.Plant.{Plant}
use Rattle.lv_model.specs.declared.plant.ComponentType.{ComponentType}
use Rattle.lv_model.specs.declared.plant.ModeFormula.{ModeFormula}
use Rattle.lv_model.specs.declared.plant.Move.{Move}
use Rattle.lv_model.specs.declared.plant.MoveKind.{MoveKind}
use Rattle.lv_model.specs.declared.plant.MoveKind.TheVariants.{Step, Stay, Fault}
use Rattle.lv_model.specs.declared.plant.Part.{Part}
use Rattle.lv_model.specs.Lists.{part_moves}
use Rattle.lv_model.specs.Counts.{is_step_from}
use Rattle.lv_compile.specs.Booleans.{Booleans, literal, value_literal, booleans_now, booleans_next, first_choice}
use Rattle.lv_compile.specs.FormulaClauses.{Clauses, when_true, formula_clauses}
use Rattle.lv_compile.specs.Cleaning.{cleaned}

-- not both booleans are true
abbrev pub not_both : ℕ → ℕ → List Lit
not_both one other = literal one false ∷ literal other false ∷ []

-- no two of the n booleans from this one on are true
abbrev pub apart : ℕ → ℕ → Clauses
apart first zero = []
apart first (suc n) = map (not_both first) (range_with_len (first + 1) n) ++ apart (first + 1) n

-- exactly one of the n booleans from this one on is true
abbrev pub exactly_one : ℕ → ℕ → Clauses
exactly_one first n = map (λ (each : ℕ). literal each true) (range_with_len first n) ∷ apart first n

-- each variable has one value, the first of them from this boolean on
abbrev pub values_clauses : ℕ → List ℕ → Clauses
values_clauses first [] = []
values_clauses first (n ∷ ns) = exactly_one first n ++ values_clauses (first + n) ns

-- what holds where the literal is false
abbrev pub unless : Lit → Clauses → Clauses
unless l cs = map (λ (c : List Lit). l ∷ c) cs

abbrev pub mode_formula_clauses : Booleans → ℕ → ModeFormula → Clauses
mode_formula_clauses b base f = unless (value_literal b base f.mode.0 false) (formula_clauses b base true f.condition)

abbrev pub type_clauses : Booleans → ℕ → ComponentType → Clauses
type_clauses b base t = flat_map (formula_clauses b base true) t.laws ++ flat_map (mode_formula_clauses b base) t.formulas

-- the laws of the part's type, then its mode formulas
abbrev pub part_clauses : Booleans → List ComponentType → Part → Clauses
part_clauses b types p = option_map_or (type_clauses b p.first.0) (slice_get types p.kind) []

-- the variables' values, what holds of each part, the laws of the system
abbrev pub copy_clauses : Booleans → Plant → Clauses
copy_clauses b plant = values_clauses b.first b.sizes ++ flat_map (part_clauses b plant.types) plant.parts ++ flat_map (formula_clauses b 0 true) plant.laws

-- the guard has this truth, where there is one; what has none is open
abbrev pub guard_clauses : Booleans → ℕ → Bool → Move → Clauses
guard_clauses b base sign m = option_map_or (formula_clauses b base sign) m.guard (when_true sign)

-- no step from the mode among these moves is open
abbrev pub closed_clauses : Booleans → ℕ → ℕ → List Move → Clauses
closed_clauses b base mode moves = flat_map (guard_clauses b base false) (filter (is_step_from mode) moves)

-- when the move, the n-th of these, may go on
abbrev pub goes_clauses : MoveKind → Booleans → ℕ → List Move → ℕ → Move → Clauses
goes_clauses Step b base moves n m = guard_clauses b base true m ++ closed_clauses b base m.source.0 (take n moves)
goes_clauses Stay b base moves n m = closed_clauses b base m.source.0 moves
goes_clauses Fault b base moves n m = guard_clauses b base true m

-- the choice of the n-th move: its source before, its target after, and that it may go on
abbrev pub move_clauses : Booleans → Booleans → ℕ → ℕ → List Move → ℕ → Move → Clauses
move_clauses a b base choice moves n m =
    unless (literal (choice + n) false)
    ((value_literal a base m.source.0 true ∷ []) ∷ (value_literal b base m.target.0 true ∷ []) ∷ goes_clauses m.kind a base moves n m)

-- of the moves that are left, the first of which is the n-th
abbrev pub moves_clauses : Booleans → Booleans → ℕ → ℕ → List Move → ℕ → List Move → Clauses
moves_clauses a b base choice moves n [] = []
moves_clauses a b base choice moves n (m ∷ ms) = move_clauses a b base choice moves n m ++ moves_clauses a b base choice moves (n + 1) ms

-- one move is chosen, and what each choice asks for
abbrev pub choice_clauses : Booleans → Booleans → ℕ → ℕ → List Move → Clauses
choice_clauses a b base choice moves = exactly_one choice (length moves) ++ moves_clauses a b base choice moves 0 moves

abbrev pub part_choice_clauses : Booleans → Booleans → List ComponentType → ℕ → Part → Clauses
part_choice_clauses a b types choice p = option_map_or (λ (t : ComponentType). choice_clauses a b p.first.0 choice t.moves) (slice_get types p.kind) []

-- part by part, the first of which has its choices from this boolean on
abbrev pub choices_clauses : Booleans → Booleans → List ComponentType → ℕ → List Part → Clauses
choices_clauses a b types choice [] = []
choices_clauses a b types choice (p ∷ ps) = part_choice_clauses a b types choice p ++ choices_clauses a b types (choice + part_moves types p) ps

-- as the table gives them
abbrev pub raw_clauses : Plant → Clauses
raw_clauses plant =
    copy_clauses (booleans_now plant) plant
    ++ copy_clauses (booleans_next plant) plant
    ++ choices_clauses (booleans_now plant) (booleans_next plant) plant.types (first_choice plant) plant.parts

-- the clauses of the plant
abbrev pub model_clauses : Plant → Clauses
model_clauses plant = cleaned (raw_clauses plant)
