-- Why a statement is refused whose place and names are right: a new name is in use, a formula gives too many clauses, a limit is
-- passed. The first of these counts.
use Rattle.std.specs.Prelude.{ℕ, ◌+◌, Bool, true, false, not, ◌&&◌, ◌||◌, List, [], ◌∷◌, length, position, nat_eq, nat_lt, is_some, slice_get, if◌then◌else◌, Option, Some, None, Result, Ok, Err}
use Rattle.std.specs.List.{list_all, list_any}
use Rattle.std.specs.Option.{option_map_or}
use Rattle.lv_base.specs.Names.{is_named}
use Rattle.lv_base.specs.declared.limits.TheConstants.{PARTS, MODES, MOVES, VALUES, VARIABLES, NAME_BYTES, MODEL_CLAUSES}
use Rattle.lv_model.specs.declared.plant.ModeFormula.{ModeFormula}
use Rattle.lv_model.specs.declared.plant.Part.{Part}
use Rattle.lv_model.specs.Names.{domain_named, type_named, variable_named, part_named}
use Rattle.lv_model.specs.Counts.{has_count, mode_formula_has_count, guard_has_counts, law_count}
use Rattle.lv_model.specs.Lists.{part_width}
use Rattle.lv_model.specs.Prices.{is_price_of}
use Rattle.lv_reader.specs.declared.code.ModelCode.{ModelCode}
use Rattle.lv_reader.specs.declared.code.ModelCode.TheVariants.{NameInUse, TooManyClauses, LimitPassed}
use Rattle.lv_reader.specs.declared.statement.Statement.{Statement}
use Rattle.lv_model_entries.specs.declared.draft.Draft.{Draft}
use Rattle.lv_model_entries.specs.declared.draft.TypeDraft.{TypeDraft}
use Rattle.lv_model_entries.specs.declared.draft.Entry.{Entry}
use Rattle.lv_model_entries.specs.declared.draft.Entry.TheVariants.{Named, NewDomain, TypeBegins, NewVariable, NewMode, TypeLaw, ModeLaws, NewMove, NewMoves, NewPart, SystemLaw, NewPrice}
use Rattle.lv_model_entries.specs.Entries.{entry_of, on_ok}

-- no name stands twice
abbrev pub are_distinct : List (List ℕ) → Bool
are_distinct [] = true
are_distinct (name ∷ names) = not (is_some (position (is_named name) names)) && are_distinct names

abbrev pub is_law_in : ℕ → ModeFormula → Bool
is_law_in mode f = nat_eq f.mode.0 mode

-- no mode stands twice
abbrev pub are_of_distinct_modes : List ModeFormula → Bool
are_of_distinct_modes [] = true
are_of_distinct_modes (f ∷ fs) = not (list_any (is_law_in f.mode.0) fs) && are_of_distinct_modes fs

-- the new name is in use in its name space, a mode or a value stands twice in its line, or a control's value is priced already
abbrev pub in_use_inside : TypeDraft → Entry → Bool
in_use_inside t (NewVariable v) = is_some (position (variable_named v.name) t.lists.variables)
in_use_inside t (NewMode name n) = is_some (position (is_named name) t.lists.modes)
in_use_inside t (ModeLaws fs) = not (are_of_distinct_modes fs)
in_use_inside t entry = false

abbrev pub in_use_outside : Draft → Entry → Bool
in_use_outside d (NewDomain x) = is_some (position (domain_named x.name) d.plant.domains) || not (are_distinct x.values)
in_use_outside d (TypeBegins name) = is_some (position (type_named name) d.plant.types)
in_use_outside d (NewPart p) = is_some (position (part_named p.name) d.plant.parts)
in_use_outside d (NewPrice p) = list_any (is_price_of p.control.0 p.value.0) d.plant.prices
in_use_outside d entry = false

-- a formula gives too many clauses: a step's guard in either sign
abbrev pub is_too_long_inside : TypeDraft → Entry → Bool
is_too_long_inside t (TypeLaw f) = not (has_count t.sizes true f)
is_too_long_inside t (ModeLaws fs) = not (list_all (mode_formula_has_count t.sizes) fs)
is_too_long_inside t (NewMove line m) = not (guard_has_counts t.sizes m)
is_too_long_inside t (NewMoves line ms) = not (list_all (guard_has_counts t.sizes) ms)
is_too_long_inside t entry = false

abbrev pub is_too_long_outside : Draft → Entry → Bool
is_too_long_outside d (SystemLaw f) = not (has_count d.sizes true f)
is_too_long_outside d entry = false

abbrev pub is_long_name : List ℕ → Bool
is_long_name name = nat_lt NAME_BYTES (length name)

-- a limit on modes, moves or names is passed: a mode brings its stay
abbrev pub passes_inside : TypeDraft → Entry → Bool
passes_inside t (NewVariable v) = is_long_name v.name
passes_inside t (NewMode name n) = not (nat_lt (length t.lists.modes) MODES) || (not (nat_lt (length t.lists.moves) MOVES) || is_long_name name)
passes_inside t (NewMove line m) = not (nat_lt (length t.lists.moves) MOVES)
passes_inside t (NewMoves line ms) = nat_lt MOVES (length t.lists.moves + length ms)
passes_inside t entry = false

-- the share of a part in the clauses of the model
abbrev pub share_of : Draft → Part → ℕ
share_of d p = option_map_or (λ (n : ℕ). n) (slice_get d.shares p.kind) 0

-- a limit on values, parts, variables, names or the clauses of the model is passed
abbrev pub passes_outside : Draft → Entry → Bool
passes_outside d (Named name) = is_long_name name
passes_outside d (NewDomain x) = nat_lt VALUES (length x.values) || (is_long_name x.name || list_any is_long_name x.values)
passes_outside d (TypeBegins name) = is_long_name name
passes_outside d (NewPart p) =
    not (nat_lt (length d.plant.parts) PARTS)
    || (nat_lt VARIABLES (length d.ranges + part_width d.plant.types p)
    || (nat_lt MODEL_CLAUSES (d.clauses + share_of d p) || is_long_name p.name))
passes_outside d (SystemLaw f) = nat_lt MODEL_CLAUSES (d.clauses + law_count d.sizes f)
passes_outside d entry = false

-- the first of the three, if one is true
abbrev pub first_of : Bool → Bool → Bool → Option ModelCode
first_of in_use too_long passes = if in_use then Some NameInUse else (if too_long then Some TooManyClauses else (if passes then Some LimitPassed else None))

abbrev pub fault_where : Draft → Option TypeDraft → Entry → Option ModelCode
fault_where d None entry = first_of (in_use_outside d entry) (is_too_long_outside d entry) (passes_outside d entry)
fault_where d (Some t) entry = first_of (in_use_inside t entry) (is_too_long_inside t entry) (passes_inside t entry)

-- why the entry is refused, if it is
unfoldable pub fault_of_entry : Draft → Entry → Option ModelCode
fault_of_entry d entry = fault_where d d.current entry

abbrev pub unless_faulty : Draft → Entry → Result Entry ModelCode
unless_faulty d entry = option_map_or (λ (code : ModelCode). Err code) (fault_of_entry d entry) (Ok entry)

-- what a statement adds, or the first code for which it is refused
abbrev pub judged : Draft → Statement → Result Entry ModelCode
judged d statement = on_ok (entry_of d statement) (unless_faulty d)
