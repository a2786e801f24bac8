-- A zone without choices that only members have which contain a conflict.
use Rattle.std.specs.Prelude.{◌≡◌, List, Option, Some, None}
use Rattle.lv_base.specs.declared.search.Pair.{Pair}
use Rattle.lv_boxes.specs.Members.{ZoneValue}
use Rattle.lv_search_bans.specs.Narrow.{HasSameFree, HasNoneBy}

-- the members that contain no conflict are the same ones, and no member is new
pub record IsNarrowed (zone : ZoneValue) (conflicts : List (List Pair)) (less : ZoneValue) : Type 0 where
  pub source : less.source ≡ zone.source
  pub base : less.base ≡ zone.base
  pub masks : HasSameFree conflicts zone.masks less.masks

abbrev pub NarrowedTells : ZoneValue → List (List Pair) → Option ZoneValue → Type 0
NarrowedTells zone conflicts None = HasNoneBy conflicts zone.masks
NarrowedTells zone conflicts (Some less) = IsNarrowed zone conflicts less
