-- What the variables of a type and of a plant range over.
use Rattle.std.specs.Prelude.{ℕ, List, [], ◌∷◌, length, map, slice_get}
use Rattle.std.specs.List.{flat_map}
use Rattle.std.specs.Option.{option_map_or}
use Rattle.lv_base.specs.declared.range.Range.{Range}
use Rattle.lv_base.specs.declared.range.Sort.TheVariants.{Modes, Values}
use Rattle.lv_model.specs.declared.plant.Plant.{Plant}
use Rattle.lv_model.specs.declared.plant.Domain.{Domain}
use Rattle.lv_model.specs.declared.plant.ComponentType.{ComponentType}
use Rattle.lv_model.specs.declared.plant.Variable.{Variable}
use Rattle.lv_model.specs.declared.plant.Part.{Part}

-- how many values the domain of this place has
abbrev pub domain_size : List Domain → ℕ → ℕ
domain_size domains d = option_map_or (λ (x : Domain). length x.values) (slice_get domains d) 0

abbrev pub variable_range : List Domain → Variable → Range
variable_range domains v = record { sort = Values v.domain; size = domain_size domains v.domain }

-- of an instance of the type at this place: its mode, then its own variables
abbrev pub type_ranges : List Domain → ℕ → ComponentType → List Range
type_ranges domains kind t = record { sort = Modes kind; size = length t.modes } ∷ map (variable_range domains) t.variables

abbrev pub part_ranges : List Domain → List ComponentType → Part → List Range
part_ranges domains types p = option_map_or (type_ranges domains p.kind) (slice_get types p.kind) []

-- of all variables of the plant, part by part
abbrev pub plant_ranges : Plant → List Range
plant_ranges plant = flat_map (part_ranges plant.domains plant.types) plant.parts
