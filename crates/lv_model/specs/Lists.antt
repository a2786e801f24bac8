-- What the lists of a plant say of its variables.
use Rattle.std.specs.Prelude.{ℕ, ◌+◌, List, [], ◌∷◌, length, map, sum_by, slice_get, Bool, true, false, nat_eq, if◌then◌else◌, ◌≤◌, ◌<◌}
use Rattle.std.specs.List.{flat_map}
use Rattle.std.specs.Option.{option_map_or}
use Rattle.lv_model.specs.declared.plant.Plant.{Plant}
use Rattle.lv_model.specs.declared.plant.ComponentType.{ComponentType}
use Rattle.lv_model.specs.declared.plant.Part.{Part}
use Rattle.lv_model.specs.declared.plant.Variable.{Variable}
use Rattle.lv_base.specs.declared.names.Class.{Class}
use Rattle.lv_base.specs.declared.names.Class.TheVariants.{Control, Dependent, Observable}
use Rattle.lv_base.specs.declared.ids.VarId.{VarId}
use Rattle.lv_base.specs.declared.range.Range.{Range}
use Rattle.lv_model.specs.Ranges.{plant_ranges}

-- how many values each variable of the plant has, part by part
abbrev pub sizes : Plant → List ℕ
sizes plant = map (λ (r : Range). r.size) (plant_ranges plant)

-- how many variables an instance of the type has
abbrev pub type_width : ComponentType → ℕ
type_width t = length t.variables + 1

abbrev pub part_width : List ComponentType → Part → ℕ
part_width types p = option_map_or type_width (slice_get types p.kind) 0

-- how many variables the plant has
abbrev pub variable_count : Plant → ℕ
variable_count plant = sum_by (part_width plant.types) plant.parts

abbrev pub is_control : Class → Bool
is_control Control = true
is_control Dependent = false
is_control Observable = false

-- the controls among variables that are numbered from the first
abbrev pub controls_from : ℕ → List Variable → List VarId
controls_from first [] = []
controls_from first (v ∷ vs) = (if is_control v.class then record { 0 = first } ∷ controls_from (first + 1) vs else controls_from (first + 1) vs)

abbrev pub part_controls : List ComponentType → Part → List VarId
part_controls types p = option_map_or (λ (t : ComponentType). controls_from (p.first.0 + 1) t.variables) (slice_get types p.kind) []

-- the control variables of the plant, part by part
abbrev pub controls : Plant → List VarId
controls plant = flat_map (part_controls plant.types) plant.parts

-- how many moves the part's type has
abbrev pub part_moves : List ComponentType → Part → ℕ
part_moves types p = option_map_or (λ (t : ComponentType). length t.moves) (slice_get types p.kind) 0

-- how many moves each part has to choose from
abbrev pub move_counts : Plant → List ℕ
move_counts plant = map (part_moves plant.types) plant.parts

-- the number of a variable, of which there are so many
pub record IsVariable (count : ℕ) (v : VarId) : Type 0 where
  pub below : v.0 < count

abbrev pub is_variable : ℕ → VarId → Bool
is_variable x v = nat_eq v.0 x

-- a number that the limits of a model allow for values, modes and moves
pub record IsFew (n : ℕ) : Type 0 where
  pub few : n ≤ 64
