-- the zone at the place is the one behind the steps from the zone that was come to
use Rattle.std.proofs.Common.{◌≡◌, ◌<◌, option_map}
use Rattle.std.specs.Prelude.{slice_get}
use Rattle.lv_split_zones.specs.Splits.{zone_after}
use Rattle.lv_split_zones.specs.Made.{zones_made}
use Rattle.lv_split_zones.proofs.made.climb.Given as goal

abbrev pub invariant-loop-split : goal.invariant-loop-split
invariant-loop-split l =
    record {
      there : l.at < l.made.count;
      behind : slice_get (zones_made l.made) l.place ≡ option_map (zone_after l.made.causes l.path.items) (slice_get (zones_made l.made) l.at);
    }

abbrev pub decreases-loop-split : goal.decreases-loop-split
decreases-loop-split l = l.at
