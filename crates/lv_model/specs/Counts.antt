-- How many clauses a plant comes to: what says of the truth values of its booleans that they are those of a step, counted
-- without making it. Repeated literals and what is true of everything count too.
use Rattle.std.specs.Prelude.{ℕ, zero, suc, ◌+◌, min, Bool, true, false, not, nat_eq, nat_le, ◌&&◌, ◌||◌, List, [], ◌∷◌, length, map, take, sum_by, is_some, slice_get, if◌then◌else◌}
use Rattle.std.specs.List.{list_all}
use Rattle.std.specs.Option.{option_map_or}
use Rattle.lv_base.specs.declared.limits.TheConstants.{MODES, VALUES, MODEL_CLAUSES}
use Rattle.lv_base.specs.Tree.{Tree}
use Rattle.lv_base.specs.Counts.{clause_count, truth_count}
use Rattle.lv_model.specs.declared.plant.Plant.{Plant}
use Rattle.lv_model.specs.declared.plant.Domain.{Domain}
use Rattle.lv_model.specs.declared.plant.ComponentType.{ComponentType}
use Rattle.lv_model.specs.declared.plant.Variable.{Variable}
use Rattle.lv_model.specs.declared.plant.ModeFormula.{ModeFormula}
use Rattle.lv_model.specs.declared.plant.Move.{Move}
use Rattle.lv_model.specs.declared.plant.MoveKind.{MoveKind}
use Rattle.lv_model.specs.declared.plant.MoveKind.TheVariants.{Step, Stay, Fault}
use Rattle.lv_model.specs.declared.plant.Part.{Part}
use Rattle.lv_model.specs.Ranges.{domain_size}
use Rattle.lv_model.specs.Lists.{sizes}
use Rattle.lv_model.specs.Meaning.{is_step_kind}

-- what is more than the limit allows is taken as one too many
abbrev pub held : ℕ → ℕ
held n = min n (MODEL_CLAUSES + 1)

-- how many pairs so many things have
abbrev pub pairs : ℕ → ℕ
pairs zero = 0
pairs (suc n) = n + pairs n

-- one of so many booleans is true, and no two of them are
abbrev pub one_of_count : ℕ → ℕ
one_of_count n = 1 + pairs n

-- no variable of a well-formed plant has more values than the limit
abbrev pub limited : ℕ → ℕ
limited n = min n VALUES

abbrev pub variable_size : List Domain → Variable → ℕ
variable_size domains v = limited (domain_size domains v.domain)

-- of the variables of a type's formulas, where the mode counts with as many values as a type may have modes
abbrev pub formula_sizes : List Domain → List Variable → List ℕ
formula_sizes domains vs = MODES ∷ map (variable_size domains) vs

-- of the variables of the system's laws
abbrev pub law_sizes : Plant → List ℕ
law_sizes plant = map limited (sizes plant)

-- no rule gives too long a list for the formula in the sign
abbrev pub has_count : List ℕ → Bool → Tree → Bool
has_count sizes sign f = is_some (clause_count sizes sign f)

-- of a formula that has its count
abbrev pub formula_count : List ℕ → Bool → Tree → ℕ
formula_count sizes sign f = option_map_or (λ (n : ℕ). n) (clause_count sizes sign f) 0

abbrev pub mode_formula_count : List ℕ → ModeFormula → ℕ
mode_formula_count sizes f = formula_count sizes true f.condition

-- what has no guard is open
abbrev pub guard_count : List ℕ → Bool → Move → ℕ
guard_count sizes sign m = option_map_or (formula_count sizes sign) m.guard (truth_count sign)

abbrev pub is_step_from : ℕ → Move → Bool
is_step_from mode m = is_step_kind m.kind && nat_eq m.source.0 mode

abbrev pub denied_count : List ℕ → ℕ → Move → ℕ
denied_count sizes mode m = if is_step_from mode m then guard_count sizes false m else 0

-- no step from the mode among these moves is open
abbrev pub closed_count : List ℕ → ℕ → List Move → ℕ
closed_count sizes mode moves = sum_by (denied_count sizes mode) moves

-- when the move, the n-th of these, may go on: a step where it is open and no earlier one of its mode is, a stay where no step of
-- its mode is, a fault where it is open
abbrev pub goes_count : MoveKind → List ℕ → List Move → ℕ → Move → ℕ
goes_count Step sizes moves n m = guard_count sizes true m + closed_count sizes m.source.0 (take n moves)
goes_count Stay sizes moves n m = closed_count sizes m.source.0 moves
goes_count Fault sizes moves n m = guard_count sizes true m

-- of the moves that are left, the first of which is the n-th: source, target, and when it may go on
abbrev pub moves_count : List ℕ → List Move → ℕ → List Move → ℕ
moves_count sizes moves n [] = 0
moves_count sizes moves n (m ∷ ms) = 2 + goes_count m.kind sizes moves n m + moves_count sizes moves (n + 1) ms

-- one move is chosen, and what each choice asks for
abbrev pub choice_count : List ℕ → List Move → ℕ
choice_count sizes moves = one_of_count (length moves) + moves_count sizes moves 0 moves

abbrev pub values_count : List Domain → Variable → ℕ
values_count domains v = one_of_count (variable_size domains v)

-- laws of the type and mode formulas
abbrev pub holds_count : List ℕ → ComponentType → ℕ
holds_count sizes t = sum_by (formula_count sizes true) t.laws + sum_by (mode_formula_count sizes) t.formulas

-- what holds of a part of the type before a step, and after it: its variables have values, its formulas are true
abbrev pub copy_count : List Domain → ComponentType → ℕ
copy_count domains t = one_of_count (length t.modes) + sum_by (values_count domains) t.variables + holds_count (formula_sizes domains t.variables) t

-- the share of one part of the type
abbrev pub type_count : List Domain → ComponentType → ℕ
type_count domains t = copy_count domains t + copy_count domains t + choice_count (formula_sizes domains t.variables) t.moves

abbrev pub part_count : List Domain → List ComponentType → Part → ℕ
part_count domains types p = option_map_or (type_count domains) (slice_get types p.kind) 0

-- the share of a law of the system, before a step and after it
abbrev pub law_count : List ℕ → Tree → ℕ
law_count sizes f = formula_count sizes true f + formula_count sizes true f

-- of the whole plant
abbrev pub plant_count : Plant → ℕ
plant_count plant = sum_by (part_count plant.domains plant.types) plant.parts + sum_by (law_count (law_sizes plant)) plant.laws

abbrev pub mode_formula_has_count : List ℕ → ModeFormula → Bool
mode_formula_has_count sizes f = has_count sizes true f.condition

-- a guard is asked for, a step's also denied
abbrev pub guard_has_counts : List ℕ → Move → Bool
guard_has_counts sizes m = option_map_or (λ (g : Tree). has_count sizes true g && (not (is_step_kind m.kind) || has_count sizes false g)) m.guard true

abbrev pub formulas_have_counts : List ℕ → ComponentType → Bool
formulas_have_counts sizes t =
    list_all (has_count sizes true) t.laws && (list_all (mode_formula_has_count sizes) t.formulas && list_all (guard_has_counts sizes) t.moves)

abbrev pub type_has_counts : List Domain → ComponentType → Bool
type_has_counts domains t = formulas_have_counts (formula_sizes domains t.variables) t

-- no formula comes to too many clauses, nor does the plant
abbrev pub clauses_fit : Plant → Bool
clauses_fit plant =
    (list_all (type_has_counts plant.domains) plant.types && list_all (has_count (law_sizes plant) true) plant.laws)
    && nat_le (plant_count plant) MODEL_CLAUSES
