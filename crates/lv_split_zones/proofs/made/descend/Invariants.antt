-- the steps that are left make of the masks what all make of the zone's
use Rattle.std.proofs.Common.{◌≡◌, ◌≤◌, drop, length}
use Rattle.lv_split_zones.specs.Splits.{masks_after}
use Rattle.lv_split_zones.proofs.made.descend.Given as goal

abbrev pub invariant-loop-left : goal.invariant-loop-left
invariant-loop-left l =
    record {
      within : l.left ≤ length l.path;
      made : l.masks.items ≡ masks_after l.causes (drop l.left l.path) l.zone.masks;
    }

abbrev pub decreases-loop-left : goal.decreases-loop-left
decreases-loop-left l = l.left
