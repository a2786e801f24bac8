-- Zones over more slots.
use Rattle.std.specs.Prelude.{ℕ, List, ◌++◌, map}
use Rattle.lv_boxes.specs.Members.{ZoneValue}

-- the zone with these masks behind its own
abbrev pub longer : List ℕ → ZoneValue → ZoneValue
longer more zone = record zone { masks = zone.masks ++ more }

abbrev pub all_longer : List ℕ → List ZoneValue → List ZoneValue
all_longer more zones = map (longer more) zones
