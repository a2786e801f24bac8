-- Zones by their places.
use Rattle.std.specs.Prelude.{◌≡◌, ◌<◌, ℕ, Bool, true, List, Option, slice_get}
use Rattle.std.specs.Option.{option_and_then}
use Rattle.std.specs.Ordering.{nat_cmp}
use Rattle.std.specs.BTreeSet.{BTreeSet, contains}
use Rattle.lv_boxes.specs.Members.{ZoneValue}
use Rattle.lv_split_zones.specs.declared.made.Made.{Made}
use Rattle.lv_split_zones.specs.Made.{IsMade}

-- the zone at this place, where it was not split
abbrev pub open_at : List (Option ZoneValue) → ℕ → Option ZoneValue
open_at zones place = option_and_then (λ (zone : Option ZoneValue). zone) (slice_get zones place)

-- whether the zone at this place was split
abbrev pub is_in : BTreeSet ℕ → ℕ → Bool
is_in split place = contains nat_cmp split place

-- the zones are made as they are kept, and each that was split is one of them
pub record AreZones (m : Made) (split : BTreeSet ℕ) : Type 0 where
  pub made : IsMade m
  pub few : (place : ℕ) → is_in split place ≡ true → place < m.count
