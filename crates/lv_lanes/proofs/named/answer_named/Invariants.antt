use Rattle.std.proofs.Common.{◌≡◌, false, take}
use Rattle.std.specs.List.{list_any}
use Rattle.lv_lanes.specs.Standing.{is_lane}
use Rattle.lv_lanes.proofs.named.answer_named.Given as goal

-- none of the lanes seen so far has this name
abbrev pub invariant-loop-lane : goal.invariant-loop-lane
invariant-loop-lane g l = record {
  same : l.lanes ≡ l.fn.lanes;
  none : list_any (is_lane l.name) (take l.lane-index l.fn.lanes) ≡ false;
}
