-- What names stand for over a whole plant: a part and one of its variables, and the values of a variable.
use Rattle.std.specs.Prelude.{ℕ, ◌+◌, ◌^◌, Bool, true, false, List, [], ◌∷◌, map, position, slice_get, nat_lt, if◌then◌else◌, Option, Some, None, option_map, codes}
use Rattle.std.specs.List.{flat_map}
use Rattle.std.specs.Option.{option_and_then, option_map_or}
use Rattle.lv_base.specs.Names.{is_named}
use Rattle.lv_base.specs.declared.names.Class.{Class}
use Rattle.lv_base.specs.declared.names.Class.TheVariants.{Control, Dependent, Observable}
use Rattle.lv_base.specs.declared.ids.ValId.{ValId}
use Rattle.lv_base.specs.declared.ids.VarId.{VarId}
use Rattle.lv_formula_text.specs.declared.path.Path.{Path}
use Rattle.lv_formula_text.specs.declared.path.Path.TheVariants.{Own, OfPart}
use Rattle.lv_base.specs.declared.range.Range.{Range}
use Rattle.lv_base.specs.declared.range.Sort.{Sort}
use Rattle.lv_base.specs.declared.range.Sort.TheVariants.{Modes, Values}
use Rattle.lv_base.specs.Fits.{is_same_sort}
use Rattle.lv_model.specs.declared.plant.Plant.{Plant}
use Rattle.lv_model.specs.declared.plant.Domain.{Domain}
use Rattle.lv_model.specs.declared.plant.ComponentType.{ComponentType}
use Rattle.lv_model.specs.declared.plant.Variable.{Variable}
use Rattle.lv_model.specs.declared.plant.Part.{Part}
use Rattle.lv_model.specs.Names.{variable_named, part_named}
use Rattle.lv_model.specs.Ranges.{plant_ranges}
use Rattle.lv_formula_text.specs.Resolving.{Names}

-- a number of 32 bits; the lists of a plant are far shorter
abbrev pub numbered : ℕ → Option ℕ
numbered n = if nat_lt n (2 ^ 32) then Some n else None

-- the variable of a type that a word names, counted from its mode
abbrev pub place_in_type : List Variable → List ℕ → Option ℕ
place_in_type variables word =
    if is_named (codes "mode") word then Some 0 else option_map (λ n. n + 1) (position (variable_named word) variables)

abbrev pub variable_at : ℕ → Option VarId
variable_at n = option_map (λ k. record { 0 = k }) (numbered n)

-- the variable of the part that a word names
abbrev pub variable_of_part : List ComponentType → List ℕ → Part → Option VarId
variable_of_part types word p =
    option_and_then (λ (t : ComponentType). option_and_then (λ n. variable_at (p.first.0 + n)) (place_in_type t.variables word)) (slice_get types p.kind)

-- the variable that the names of a part and of its variable stand for
abbrev pub variable_of : Plant → List ℕ → List ℕ → Option VarId
variable_of plant part word =
    option_and_then (variable_of_part plant.types word) (option_and_then (slice_get plant.parts) (position (part_named part) plant.parts))

-- a word alone names no variable
abbrev pub variable_by : Plant → Path → Option VarId
variable_by plant (Own word) = None
variable_by plant (OfPart part word) = variable_of plant part word

-- the value of this name among those of a domain, or the modes of a type
abbrev pub value_among : List (List ℕ) → List ℕ → Option ValId
value_among names word = option_map (λ n. record { 0 = n }) (option_and_then numbered (position (is_named word) names))

abbrev pub value_of_sort : Plant → List ℕ → Sort → Option ValId
value_of_sort plant word (Modes kind) = option_and_then (λ (t : ComponentType). value_among t.modes word) (slice_get plant.types kind)
value_of_sort plant word (Values d) = option_and_then (λ (x : Domain). value_among x.values word) (slice_get plant.domains d)

-- what the variable of this number ranges over, where these are the ranges of all
abbrev pub sort_of : List Range → ℕ → Option Sort
sort_of ranges x = option_map (λ (r : Range). r.sort) (slice_get ranges x)

-- the value of this name that the variable has
abbrev pub value_of : Plant → List Range → VarId → List ℕ → Option ValId
value_of plant ranges x word = option_and_then (value_of_sort plant word) (sort_of ranges x.0)

-- both are there, and are of one sort
abbrev pub are_one_sort : Option Sort → Option Sort → Bool
are_one_sort None s = false
are_one_sort (Some r) None = false
are_one_sort (Some r) (Some s) = is_same_sort r s

abbrev pub share_domain : List Range → VarId → VarId → Bool
share_domain ranges x y = are_one_sort (sort_of ranges x.0) (sort_of ranges y.0)

-- what the names in a goal stand for: as in a law of the system that stands behind all parts
abbrev pub names_over : Plant → List Range → Names
names_over plant ranges = record { variable = variable_by plant; value = value_of plant ranges; share_domain = share_domain ranges }

abbrev pub plant_names : Plant → Names
plant_names plant = names_over plant (plant_ranges plant)

-- what each variable of the plant is for, part by part; a mode is for nothing of that kind
abbrev pub type_classes : ComponentType → List (Option Class)
type_classes t = None ∷ map (λ (v : Variable). Some v.class) t.variables

abbrev pub part_classes : List ComponentType → Part → List (Option Class)
part_classes types p = option_map_or type_classes (slice_get types p.kind) []

abbrev pub classes : Plant → List (Option Class)
classes plant = flat_map (part_classes plant.types) plant.parts

abbrev pub is_observable_class : Class → Bool
is_observable_class Control = false
is_observable_class Dependent = false
is_observable_class Observable = true

-- the variable of this number is an observable, where these are the classes of all
abbrev pub is_observable : List (Option Class) → ℕ → Bool
is_observable kinds x = option_map_or (λ (c : Option Class). option_map_or is_observable_class c false) (slice_get kinds x) false
