-- Which variables and values a formula may name: in a type its own, by a word alone; in a law of the system those of the parts
-- so far, by the part's name and the variable's.
use Rattle.std.specs.Prelude.{◌≡◌, ℕ, ◌+◌, ◌-◌, List, Bool, false, nat_eq, slice_get, if◌then◌else◌, Option, Some, None, option_map, Result, Ok, Err}
use Rattle.std.specs.Option.{option_and_then}
use Rattle.lv_base.specs.declared.ids.ValId.{ValId}
use Rattle.lv_base.specs.declared.ids.VarId.{VarId}
use Rattle.lv_base.specs.Tree.{Tree}
use Rattle.lv_formula_text.specs.declared.path.Path.{Path}
use Rattle.lv_formula_text.specs.declared.path.Path.TheVariants.{Own, OfPart}
use Rattle.lv_base.specs.declared.range.Range.{Range}
use Rattle.lv_base.specs.declared.range.Sort.{Sort}
use Rattle.lv_base.specs.declared.range.Sort.TheVariants.{Modes, Values}
use Rattle.lv_base.specs.Fits.{is_same_sort}
use Rattle.lv_model.specs.declared.plant.Domain.{Domain}
use Rattle.lv_model.specs.declared.plant.ComponentType.{ComponentType}
use Rattle.lv_model.specs.declared.plant.Part.{Part}
use Rattle.lv_model.specs.declared.plant.Variable.{Variable}
use Rattle.lv_formula_text.specs.Resolving.{Names, resolved}
use Rattle.lv_formula_text.specs.PhraseTree.{PhraseTree}
use Rattle.lv_formula_text.specs.declared.resolver.NameFault.{NameFault}
use Rattle.lv_formula_text.specs.declared.resolver.NameFault.TheVariants as name_fault
use Rattle.lv_reader.specs.declared.code.ModelCode.{ModelCode}
use Rattle.lv_reader.specs.declared.code.ModelCode.TheVariants.{UnknownName, NoFit}
use Rattle.lv_model_entries.specs.declared.draft.Draft.{Draft}
use Rattle.lv_model_entries.specs.declared.draft.CheckFault.{CheckFault}
use Rattle.lv_model_entries.specs.declared.draft.CheckFault.TheVariants.{Refused, Memory}
use Rattle.lv_model_entries.specs.Places.{variable_numbered, variable_place, part_of_name, mode_place, value_of_domain, value_of_sort}

-- both are there, and are of one sort
abbrev pub are_one_sort : Option Sort → Option Sort → Bool
are_one_sort None s = false
are_one_sort (Some r) None = false
are_one_sort (Some r) (Some s) = is_same_sort r s

-- in a type that has not ended; its modes are those of place 0, since no other type's can be named

abbrev pub variable_of_type : ComponentType → Path → Option VarId
variable_of_type t (Own word) = option_and_then variable_numbered (variable_place t.variables word)
variable_of_type t (OfPart part word) = None

abbrev pub sort_in_type : ComponentType → ℕ → Option Sort
sort_in_type t x = if nat_eq x 0 then Some (Modes 0) else option_map (λ (v : Variable). Values v.domain) (slice_get t.variables (x - 1))

abbrev pub value_by_sort : List Domain → ComponentType → Sort → List ℕ → Option ValId
value_by_sort domains t (Modes kind) word = mode_place t word
value_by_sort domains t (Values d) word = value_of_domain domains d word

abbrev pub value_of_type : List Domain → ComponentType → VarId → List ℕ → Option ValId
value_of_type domains t x word = option_and_then (λ (s : Sort). value_by_sort domains t s word) (sort_in_type t x.0)

abbrev pub share_in_type : ComponentType → VarId → VarId → Bool
share_in_type t x y = are_one_sort (sort_in_type t x.0) (sort_in_type t y.0)

abbrev pub type_names : List Domain → ComponentType → Names
type_names domains t = record { variable = variable_of_type t; value = value_of_type domains t; share_domain = share_in_type t }

-- in a law of the system

-- the variable of the part that a word names
abbrev pub variable_of_part : List ComponentType → List ℕ → Part → Option VarId
variable_of_part types word p =
    option_and_then (λ (t : ComponentType). option_and_then (λ n. variable_numbered (p.first.0 + n)) (variable_place t.variables word)) (slice_get types p.kind)

abbrev pub variable_of_system : Draft → Path → Option VarId
variable_of_system d (Own word) = None
variable_of_system d (OfPart part word) = option_and_then (variable_of_part d.plant.types word) (part_of_name d.plant.parts part)

abbrev pub sort_in_system : Draft → ℕ → Option Sort
sort_in_system d x = option_map (λ (r : Range). r.sort) (slice_get d.ranges x)

abbrev pub value_of_system : Draft → VarId → List ℕ → Option ValId
value_of_system d x word = option_and_then (λ (s : Sort). value_of_sort d.plant.domains d.plant.types s word) (sort_in_system d x.0)

abbrev pub share_in_system : Draft → VarId → VarId → Bool
share_in_system d x y = are_one_sort (sort_in_system d x.0) (sort_in_system d y.0)

abbrev pub system_names : Draft → Names
system_names d = record { variable = variable_of_system d; value = value_of_system d; share_domain = share_in_system d }

-- the code of a name that stands for nothing fitting
abbrev pub code_of_name : NameFault → ModelCode
code_of_name name_fault.UnknownName = UnknownName
code_of_name name_fault.NoFit = NoFit

-- the same of a result
abbrev pub with_code : {A : Type 0} → Result A NameFault → Result A ModelCode
with_code (Ok x) = Ok x
with_code (Err fault) = Err (code_of_name fault)

-- the formula that a phrase is in a scope, or the code of the first side that stands for nothing fitting
abbrev pub formula_in : Names → PhraseTree → Result Tree ModelCode
formula_in names phrase = with_code (resolved names phrase)

-- a fault tells the code of the formula's; want of memory tells nothing
abbrev pub TellsFormula : CheckFault → Result Tree ModelCode → Type 0
TellsFormula (Refused code) found = found ≡ Err code
TellsFormula Memory found = Unit {0}
