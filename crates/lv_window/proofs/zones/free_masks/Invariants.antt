-- the masks so far and those of the steps left are all
use Rattle.std.proofs.Common.{◌≡◌, ◌++◌}
use Rattle.lv_window.specs.Joints.{free_masks}
use Rattle.lv_window.proofs.zones.free_masks.Given as goal

abbrev pub invariant-steps : goal.invariant-steps
invariant-steps l = l.masks.items ++ free_masks l.model l.left ≡ free_masks l.model l.steps

abbrev pub decreases-steps : goal.decreases-steps
decreases-steps l = l.left
