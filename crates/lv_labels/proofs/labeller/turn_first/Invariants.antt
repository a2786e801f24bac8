-- those before the place came in place of those before them
use Rattle.std.proofs.Common.{◌≤◌, ◌-◌, length}
use Rattle.lv_labels.specs.Holding.{AreTurned}
use Rattle.lv_labels.proofs.labeller.turn_first.Given as goal

abbrev pub invariant-loop-at : goal.invariant-loop-at
invariant-loop-at l = record {
  turned : AreTurned l.at l.before l.now l.fn.labels l.labels;
  before : l.at ≤ length l.before;
  now : l.at ≤ length l.now;
}

abbrev pub decreases-loop-at : goal.decreases-loop-at
decreases-loop-at l = length l.now - l.at
