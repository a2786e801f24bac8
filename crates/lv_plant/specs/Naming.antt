-- The fault that a line names.
use Rattle.std.specs.Prelude.{◌≡◌, ◌<◌, ℕ, Bool, not, ◌&&◌, nat_eq, List, slice_get, slice_index_or, option_map, Option, Some}
use Rattle.std.specs.List.{position}
use Rattle.std.specs.Option.{option_and_then}
use Rattle.lv_base.specs.declared.ids.ValId.{ValId}
use Rattle.lv_base.specs.declared.ids.MoveId.{MoveId}
use Rattle.lv_base.specs.Names.{is_named}
use Rattle.lv_model.specs.declared.plant.Plant.{Plant}
use Rattle.lv_model.specs.declared.plant.ComponentType.{ComponentType}
use Rattle.lv_model.specs.declared.plant.Part.{Part}
use Rattle.lv_model.specs.declared.plant.Move.{Move}
use Rattle.lv_model.specs.Lists.{part_moves}
use Rattle.lv_model.specs.Meaning.{is_no_fault}
use Rattle.lv_meaning.specs.Possible.{move_number}
use Rattle.lv_meaning.specs.Candidates.{type_moves}
use Rattle.lv_plant.specs.declared.naming.NamedFault.{NamedFault}

abbrev pub is_part : List ℕ → Part → Bool
is_part name p = is_named name p.name

-- a fault of the mode, with this line
abbrev pub is_fault_at : ℕ → ℕ → Move → Bool
is_fault_at mode line m = not (is_no_fault m.kind) && (nat_eq m.source.0 mode && nat_eq m.line line)

-- the first of the part's moves that is such a fault
abbrev pub fault_at : List ComponentType → Part → ℕ → ℕ → Option MoveId
fault_at types p mode line = option_map move_number (position (is_fault_at mode line) (type_moves types p))

-- the mode of the part of this place
abbrev pub mode_at : List ValId → ℕ → ValId
mode_at modes k = slice_index_or modes k (record { 0 = 0 })

abbrev pub naming_of : ℕ → MoveId → NamedFault
naming_of k mv = record { part = k; mv = mv }

-- the fault of this line from the mode of the part of this place
abbrev pub named_fault_at : Plant → List ValId → ℕ → ℕ → Option NamedFault
named_fault_at plant modes line k =
    option_and_then (λ (p : Part). option_map (naming_of k) (fault_at plant.types p (mode_at modes k).0 line)) (slice_get plant.parts k)

-- the fault of this line from the mode of the part of this name; a line of which the number is too great to be known has none
abbrev pub named_fault : Plant → List ValId → List ℕ → Option ℕ → Option NamedFault
named_fault plant modes name tag = option_and_then (λ (line : ℕ). option_and_then (named_fault_at plant modes line) (position (is_part name) plant.parts)) tag

-- the part is there, and has the move
pub record NamesMove (plant : Plant) (n : NamedFault) : Type 0 where
  pub of : Part
  pub at : slice_get plant.parts n.part ≡ Some of
  pub below : n.mv.0 < part_moves plant.types of
