-- A zone that is held beside its place.
use Rattle.std.specs.Prelude.{◌≡◌, List, Option, Some, None, option_map, slice_get}
use Rattle.lv_boxes.specs.Members.{ZoneValue}
use Rattle.lv_split_zones.specs.declared.walk.Held.{Held}

-- it is the one at its place
abbrev pub IsHeld : List ZoneValue → Option Held → Type 0
IsHeld zones None = Unit {0}
IsHeld zones (Some h) = slice_get zones h.place ≡ Some h.zone

abbrev pub zone_held : Option Held → Option ZoneValue
zone_held held = option_map (λ (h : Held). h.zone) held
