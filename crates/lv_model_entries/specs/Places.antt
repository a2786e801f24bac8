-- What names stand for, by their places in lists.
use Rattle.std.specs.Prelude.{ℕ, ◌+◌, ◌^◌, List, position, slice_get, nat_lt, if◌then◌else◌, Option, Some, None, option_map, codes}
use Rattle.std.specs.Option.{option_and_then}
use Rattle.lv_base.specs.Names.{is_named}
use Rattle.lv_base.specs.declared.ids.ValId.{ValId}
use Rattle.lv_base.specs.declared.ids.VarId.{VarId}
use Rattle.lv_base.specs.declared.range.Sort.{Sort}
use Rattle.lv_base.specs.declared.range.Sort.TheVariants.{Modes, Values}
use Rattle.lv_model.specs.declared.plant.Domain.{Domain}
use Rattle.lv_model.specs.declared.plant.ComponentType.{ComponentType}
use Rattle.lv_model.specs.declared.plant.Variable.{Variable}
use Rattle.lv_model.specs.declared.plant.Part.{Part}
use Rattle.lv_model.specs.Names.{domain_named, type_named, variable_named, part_named}

-- a place in a list as a number of 32 bits; the lists of a text within its limit are far shorter
abbrev pub placed : ℕ → Option ℕ
placed n = if nat_lt n (2 ^ 32) then Some n else None

abbrev pub domain_place : List Domain → List ℕ → Option ℕ
domain_place domains word = option_and_then placed (position (domain_named word) domains)

abbrev pub type_place : List ComponentType → List ℕ → Option ℕ
type_place types word = option_and_then placed (position (type_named word) types)

-- the value of this name among the names of a domain's values, or of a type's modes
abbrev pub value_place : List (List ℕ) → List ℕ → Option ValId
value_place names word = option_map (λ n. record { 0 = n }) (option_and_then placed (position (is_named word) names))

-- the mode of a type
abbrev pub mode_place : ComponentType → List ℕ → Option ValId
mode_place t word = value_place t.modes word

-- a variable by its number
abbrev pub variable_numbered : ℕ → Option VarId
variable_numbered n = option_map (λ k. record { 0 = k }) (placed n)

-- the variable of a type that a word names, counted from its mode
abbrev pub variable_place : List Variable → List ℕ → Option ℕ
variable_place variables word =
    if is_named (codes "mode") word then Some 0 else option_map (λ n. n + 1) (position (variable_named word) variables)

-- the part of this name
abbrev pub part_of_name : List Part → List ℕ → Option Part
part_of_name parts word = option_and_then (slice_get parts) (position (part_named word) parts)

-- the value of this name, of a variable that ranges over such values
abbrev pub value_of_domain : List Domain → ℕ → List ℕ → Option ValId
value_of_domain domains d word = option_and_then (λ (x : Domain). value_place x.values word) (slice_get domains d)

abbrev pub mode_of_type : List ComponentType → ℕ → List ℕ → Option ValId
mode_of_type types kind word = option_and_then (λ (t : ComponentType). mode_place t word) (slice_get types kind)

abbrev pub value_of_sort : List Domain → List ComponentType → Sort → List ℕ → Option ValId
value_of_sort domains types (Modes kind) word = mode_of_type types kind word
value_of_sort domains types (Values d) word = value_of_domain domains d word
