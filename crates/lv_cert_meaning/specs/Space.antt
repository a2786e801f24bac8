-- Zones by their numbers, which count from 1: a split closes its zone and opens zones with the next numbers.
use Rattle.std.specs.Prelude.{ℕ, ◌-◌, Bool, true, false, List, ◌++◌, map, Option, Some, None, option_map, slice_set}
use Rattle.std.specs.List.{list_all}
use Rattle.std.specs.Option.{option_and_then, option_map_or}
use Rattle.lv_model_names.specs.lv_base.declared.ids.Cost.{Cost}
use Rattle.lv_model_names.specs.lv_base.declared.rank.Rank.{Rank}
use Rattle.lv_model_names.specs.lv_base.declared.search.Pair.{Pair}
use Rattle.lv_model_names.specs.lv_base.Rank.{ranks_before}
use Rattle.lv_search_zones.specs.lv_boxes.Members.{ZoneValue, rank_in}
use Rattle.lv_search_zones.specs.lv_boxes.Least.{cheapest_choices}
use Rattle.lv_search_zones.specs.lv_boxes.Parts.{parts_of}
use Rattle.lv_cert_meaning.specs.Counting.{at_number}

-- what the choices of each slot cost, and the zones so far, nothing where one was split
pub record Space : Type 0 where
  pub slots : List (List Cost)
  pub zones : List (Option ZoneValue)

abbrev pub same_zone : Option ZoneValue → Option ZoneValue
same_zone zone = zone

-- the zone of this number, if it is open
abbrev pub open_zone : Space → ℕ → Option ZoneValue
open_zone s n = option_and_then same_zone (at_number s.zones n)

-- the zone of this number split into these parts
abbrev pub with_parts : Space → ℕ → List ZoneValue → Space
with_parts s n parts = record s { zones = slice_set s.zones (n - 1) None ++ map Some parts }

-- the zone of this number split by these choices
abbrev pub with_split : Space → ℕ → ZoneValue → List Pair → Space
with_split s n zone pairs = with_parts s n (parts_of zone pairs)

-- the rank of the zone's least member, if it has members
abbrev pub least_rank : List (List Cost) → ZoneValue → Option Rank
least_rank slots zone = option_map (rank_in slots zone) (cheapest_choices slots zone.masks)

-- the zone has a member that ranks before the rank
abbrev pub has_before : List (List Cost) → ZoneValue → Rank → Bool
has_before slots zone r = option_map_or (λ least. ranks_before least r) (least_rank slots zone) false

-- the rank is behind the last one, where this is asked for
abbrev pub is_behind : Option Rank → Rank → Bool
is_behind None r = false
is_behind (Some last) r = ranks_before last r

-- the zone was split, or is empty, or its least member ranks behind the last one that counts
abbrev pub is_passed : List (List Cost) → Option Rank → Option ZoneValue → Bool
is_passed slots last None = true
is_passed slots last (Some zone) = option_map_or (is_behind last) (least_rank slots zone) true

abbrev pub all_passed : Space → Option Rank → Bool
all_passed s last = list_all (is_passed s.slots last) s.zones
