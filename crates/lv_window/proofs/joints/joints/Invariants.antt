-- what was added and the conflicts between the steps left are those between all
use Rattle.std.proofs.Common.{◌≡◌, ◌+◌, ◌*◌, ◌≤◌, ◌++◌}
use Rattle.lv_window.specs.Joints.{joints_from, joints}
use Rattle.lv_window.proofs.joints.joints.Given as goal

abbrev pub invariant-steps : goal.invariant-steps
invariant-steps l = record {
  rest : l.out.items ++ joints_from l.model l.slot l.left ≡ joints l.model l.later;
  few : l.slot + 256 * l.left ≤ 256 * l.later;
}

abbrev pub decreases-steps : goal.decreases-steps
decreases-steps l = l.left
