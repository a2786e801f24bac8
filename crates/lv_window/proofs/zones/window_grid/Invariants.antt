-- the slots so far and those of the steps left are all
use Rattle.std.proofs.Common.{◌≡◌, ◌+◌, ◌*◌, ◌≤◌, ◌++◌, length}
use Rattle.lv_window.specs.Joints.{window_slots}
use Rattle.lv_window.proofs.zones.window_grid.Given as goal

abbrev pub invariant-steps : goal.invariant-steps
invariant-steps l = record {
  rest : l.grid ++ window_slots l.model l.left ≡ window_slots l.model l.steps;
  few : length l.grid + 256 * l.left ≤ 1024;
}

abbrev pub decreases-steps : goal.decreases-steps
decreases-steps l = l.left
