-- Slots by the roles of the opens that were answered, in order.
use Rattle.std.specs.Prelude.{Bool, true, false, List, slice_get}
use Rattle.std.specs.Option.{option_map_or}
use Rattle.lv_io.specs.declared.Role.{Role}
use Rattle.lv_io.specs.declared.Role.TheVariants.{Model, Second}
use Rattle.lv_io.specs.declared.Slot.{Slot}

-- both are one role
abbrev pub same_role : Role → Role → Bool
same_role Model Model = true
same_role Model Second = false
same_role Second Model = false
same_role Second Second = true

-- the slot is one of those answered: of its place, and for its role
abbrev pub is_slot : List Role → Slot → Bool
is_slot roles slot = option_map_or (same_role slot.role) (slice_get roles slot.index) false
