-- the zone that was come to has the source of the one at the place
use Rattle.std.proofs.Common.{◌≡◌, ◌<◌, option_map}
use Rattle.std.specs.Prelude.{slice_get}
use Rattle.lv_boxes.specs.Members.{ZoneValue}
use Rattle.lv_split_zones.specs.Made.{zones_made}
use Rattle.lv_split_zones.proofs.made.Made.source_at.Given as goal

abbrev pub invariant-loop-split : goal.invariant-loop-split
invariant-loop-split l =
    record {
      there : l.at < l.self.count;
      same : option_map (λ (zone : ZoneValue). zone.source) (slice_get (zones_made l.self) l.place) ≡ option_map (λ (zone : ZoneValue). zone.source) (slice_get (zones_made l.self) l.at);
    }

abbrev pub decreases-loop-split : goal.decreases-loop-split
decreases-loop-split l = l.at
