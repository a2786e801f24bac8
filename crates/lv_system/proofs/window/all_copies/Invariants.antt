-- what was gathered and the copies that are left are all, and the numbers still fit
use Rattle.std.proofs.Common.{◌+◌}
use Rattle.lv_system.proofs.GatheringLemmas.{AreGathered}
use Rattle.lv_system.proofs.window.all_copies.Given as goal

abbrev pub invariant-copies : goal.invariant-copies
invariant-copies l = AreGathered l.plant (l.steps + 1) l.first l.left l.copies.items

abbrev pub decreases-copies : goal.decreases-copies
decreases-copies l = l.left
