-- The zones that were made, as they are kept.
use Rattle.std.specs.Prelude.{◌≡◌, List, length}
use Rattle.lv_boxes.specs.Members.{ZoneValue}
use Rattle.lv_split_zones.specs.declared.made.Made.{Made}
use Rattle.lv_split_zones.specs.Splits.{AreSplits, made}

abbrev pub zones_made : Made → List ZoneValue
zones_made m = made m.causes m.first.items m.splits.items

-- each split is one of a zone before it, and so many zones there are
pub record IsMade (m : Made) : Type 0 where
  pub splits : AreSplits m.causes m.first.items m.splits.items
  pub count : m.count ≡ length (zones_made m)
