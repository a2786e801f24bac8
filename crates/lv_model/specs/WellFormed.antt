-- A plant is well formed where every number in its lists is in range, every formula fits what its variables range over, the
-- moves of each type stand in their order, and every limit is kept.
use Rattle.std.specs.Prelude.{ℕ, ◌+◌, Bool, true, false, not, nat_eq, nat_lt, nat_le, ◌&&◌, ◌||◌, List, [], ◌∷◌, length, count_by, Some, is_some, slice_get, IsTrue, All, ◌≡◌, ◌<◌, ◌≤◌}
use Rattle.std.specs.List.{list_all, list_any}
use Rattle.std.specs.Option.{option_map_or}
use Rattle.lv_base.specs.declared.limits.TheConstants.{PARTS, MODES, MOVES, VALUES, VARIABLES, NAME_BYTES, LEAST_FAULT_COST, FAULT_COST, PRICE}
use Rattle.lv_base.specs.declared.range.Range.{Range}
use Rattle.lv_base.specs.Tree.{Tree, reads_below}
use Rattle.lv_base.specs.Fits.{fits, has_value}
use Rattle.lv_model.specs.declared.plant.Plant.{Plant}
use Rattle.lv_model.specs.declared.plant.Domain.{Domain}
use Rattle.lv_model.specs.declared.plant.ComponentType.{ComponentType}
use Rattle.lv_model.specs.declared.plant.Variable.{Variable}
use Rattle.lv_model.specs.declared.plant.ModeFormula.{ModeFormula}
use Rattle.lv_model.specs.declared.plant.Move.{Move}
use Rattle.lv_model.specs.declared.plant.MoveKind.{MoveKind}
use Rattle.lv_model.specs.declared.plant.MoveKind.TheVariants.{Step, Stay, Fault}
use Rattle.lv_model.specs.declared.plant.Part.{Part}
use Rattle.lv_model.specs.declared.plant.Price.{Price}
use Rattle.lv_base.specs.declared.ids.VarId.{VarId}
use Rattle.lv_model.specs.Lists.{part_width, variable_count, controls, is_variable}
use Rattle.lv_model.specs.Prices.{is_price_of}
use Rattle.lv_model.specs.Counts.{clauses_fit}
use Rattle.lv_model.specs.Ranges.{type_ranges, plant_ranges}

abbrev pub is_within : ℕ → ℕ → ℕ → Bool
is_within low n high = nat_le low n && nat_le n high

abbrev pub name_fits : List ℕ → Bool
name_fits name = is_within 1 (length name) NAME_BYTES

abbrev pub domain_fits : Domain → Bool
domain_fits d = name_fits d.name && (is_within 1 (length d.values) VALUES && list_all name_fits d.values)

-- of a plant with so many domains
abbrev pub variable_fits : ℕ → Variable → Bool
variable_fits domains v = name_fits v.name && nat_lt v.domain domains

abbrev pub mode_formula_fits : List Range → ℕ → ModeFormula → Bool
mode_formula_fits ranges modes f = nat_lt f.mode.0 modes && fits ranges f.condition

-- a step has a guard, a stay has none and stays, and a fault alone costs
abbrev pub kind_fits : MoveKind → Move → Bool
kind_fits Step m = is_some m.guard && nat_eq m.cost.0 0
kind_fits Stay m = not (is_some m.guard) && (nat_eq m.target.0 m.source.0 && nat_eq m.cost.0 0)
kind_fits Fault m = is_within LEAST_FAULT_COST m.cost.0 FAULT_COST

abbrev pub guard_fits : List Range → Move → Bool
guard_fits ranges m = option_map_or (fits ranges) m.guard true

abbrev pub move_fits : List Range → ℕ → Move → Bool
move_fits ranges modes m = (nat_lt m.source.0 modes && nat_lt m.target.0 modes) && (kind_fits m.kind m && guard_fits ranges m)

-- among the moves of a mode: its steps, then its stay, then its faults
abbrev pub kind_place : MoveKind → ℕ
kind_place Step = 0
kind_place Stay = 1
kind_place Fault = 2

-- the moves stand mode by mode, and of each mode in the order of their kinds
abbrev pub moves_rise : ℕ → ℕ → List Move → Bool
moves_rise mode place [] = true
moves_rise mode place (m ∷ ms) =
    (nat_lt mode m.source.0 || (nat_eq mode m.source.0 && nat_le place (kind_place m.kind))) && moves_rise m.source.0 (kind_place m.kind) ms

abbrev pub is_stay : MoveKind → Bool
is_stay Step = false
is_stay Stay = true
is_stay Fault = false

abbrev pub is_stay_of : ℕ → Move → Bool
is_stay_of mode m = is_stay m.kind && nat_eq m.source.0 mode

-- each of these modes, the first of which has this number, has one stay
abbrev pub stays_once : ℕ → List (List ℕ) → List Move → Bool
stays_once mode [] moves = true
stays_once mode (name ∷ names) moves = nat_eq (count_by (is_stay_of mode) moves) 1 && stays_once (mode + 1) names moves

abbrev pub names_fit : ℕ → ComponentType → Bool
names_fit domains t = name_fits t.name && (list_all (variable_fits domains) t.variables && list_all name_fits t.modes)

abbrev pub counts_fit : ComponentType → Bool
counts_fit t = is_within 1 (length t.modes) MODES && nat_le (length t.moves) MOVES

abbrev pub formulas_fit : List Range → ComponentType → Bool
formulas_fit ranges t = list_all (fits ranges) t.laws && list_all (mode_formula_fits ranges (length t.modes)) t.formulas

abbrev pub moves_fit : List Range → ComponentType → Bool
moves_fit ranges t = list_all (move_fits ranges (length t.modes)) t.moves && (moves_rise 0 0 t.moves && stays_once 0 t.modes t.moves)

-- the type at this place
abbrev pub type_fits : List Domain → ℕ → ComponentType → Bool
type_fits domains kind t =
    (names_fit (length domains) t && counts_fit t) && (formulas_fit (type_ranges domains kind t) t && moves_fit (type_ranges domains kind t) t)

-- the types from this place on
abbrev pub types_fit : List Domain → ℕ → List ComponentType → Bool
types_fit domains kind [] = true
types_fit domains kind (t ∷ ts) = type_fits domains kind t && types_fit domains (kind + 1) ts

-- its type is there, and has the mode in which the part starts
abbrev pub part_fits : List ComponentType → Part → Bool
part_fits types p = name_fits p.name && option_map_or (λ (t : ComponentType). nat_lt p.start.0 (length t.modes)) (slice_get types p.kind) false

-- each part's variables begin where those of the parts before it end
abbrev pub firsts_follow : List ComponentType → ℕ → List Part → Bool
firsts_follow types next [] = true
firsts_follow types next (p ∷ ps) = nat_eq p.first.0 next && firsts_follow types (next + part_width types p) ps

abbrev pub parts_fit : Plant → Bool
parts_fit plant = is_within 1 (length plant.parts) PARTS && list_all (part_fits plant.types) plant.parts

-- the variables are numbered part by part, and are not too many
abbrev pub variables_fit : Plant → Bool
variables_fit plant = firsts_follow plant.types 0 plant.parts && nat_le (variable_count plant) VARIABLES

-- a price is of a control's value that isn't its resting one
abbrev pub price_fits : List Range → List VarId → Price → Bool
price_fits ranges controls p = list_any (is_variable p.control.0) controls && (has_value ranges p.control.0 p.value.0 && (nat_lt 0 p.value.0 && nat_le p.cost.0 PRICE))

-- no value of a control is priced twice
abbrev pub are_priced_once : List Price → Bool
are_priced_once [] = true
are_priced_once (p ∷ ps) = not (list_any (is_price_of p.control.0 p.value.0) ps) && are_priced_once ps

abbrev pub laws_fit : Plant → Bool
laws_fit plant = list_all (fits (plant_ranges plant)) plant.laws

abbrev pub prices_fit : Plant → Bool
prices_fit plant = list_all (price_fits (plant_ranges plant) (controls plant)) plant.prices && are_priced_once plant.prices

-- what each list says by itself is in range
abbrev pub lists_fit : Plant → Bool
lists_fit plant = (name_fits plant.name && list_all domain_fits plant.domains) && (types_fit plant.domains 0 plant.types && parts_fit plant)

abbrev pub is_well_formed : Plant → Bool
is_well_formed plant = lists_fit plant && (variables_fit plant && ((laws_fit plant && prices_fit plant) && clauses_fit plant))

-- the same facts as the code hands them on

pub record Reads (bound base : ℕ) (f : Tree) : Type 0 where
  pub below : IsTrue (reads_below bound base f)

pub record FormulaReads (bound base : ℕ) (f : ModeFormula) : Type 0 where
  pub condition : IsTrue (reads_below bound base f.condition)

abbrev pub guard_reads : ℕ → ℕ → Move → Bool
guard_reads bound base m = option_map_or (reads_below bound base) m.guard true

pub record GuardReads (bound base : ℕ) (m : Move) : Type 0 where
  pub guard : IsTrue (guard_reads bound base m)

pub record TypeReads (bound base : ℕ) (t : ComponentType) : Type 0 where
  pub first : base < bound
  pub laws : All (Reads bound base) t.laws
  pub formulas : All (FormulaReads bound base) t.formulas
  pub guards : All (GuardReads bound base) t.moves

pub record PartReads (bound : ℕ) (types : List ComponentType) (p : Part) : Type 0 where
  pub first : p.first.0 < bound
  pub kind : (t : ComponentType) → slice_get types p.kind ≡ Some t → TypeReads bound p.first.0 t

-- the part's variables end within the bound
pub record PartEnds (bound : ℕ) (types : List ComponentType) (p : Part) : Type 0 where
  pub last : p.first.0 + part_width types p ≤ bound

pub record MoveIsCheap (m : Move) : Type 0 where
  pub cost : m.cost.0 ≤ FAULT_COST

pub record TypeIsSmall (t : ComponentType) : Type 0 where
  pub moves : length t.moves ≤ MOVES
  pub costs : All MoveIsCheap t.moves
