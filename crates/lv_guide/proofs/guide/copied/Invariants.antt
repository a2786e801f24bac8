-- the zones copied and those left are all zones
use Rattle.std.proofs.Common.{◌≡◌, ◌++◌, drop}
use Rattle.lv_guide.proofs.guide.copied.Given as goal

abbrev pub invariant-loop-zone : goal.invariant-loop-zone
invariant-loop-zone l = l.copies ++ drop l.zone-index l.zones ≡ l.zones
