-- the zones made and those left are all
use Rattle.std.proofs.Common.{◌≡◌, ◌++◌, drop}
use Rattle.lv_window.specs.Longer.{all_longer}
use Rattle.lv_window.proofs.zones.all_longer.Given as goal

abbrev pub invariant-loop-zone : goal.invariant-loop-zone
invariant-loop-zone l = l.out.items ++ all_longer l.more (drop l.zone-index l.zones) ≡ all_longer l.more l.zones
