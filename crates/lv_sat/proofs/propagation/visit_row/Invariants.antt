-- the trail goes on, and no clause was found false; each turn leaves fewer watches to go along
use Rattle.std.proofs.Common.{◌-◌, None}
use Rattle.std.specs.Vec.{vec_len}
use Rattle.lv_trail.specs.Trail.{IsPropagated}
use Rattle.lv_sat.proofs.propagation.visit_row.Given as goal

abbrev pub invariant-loop-at : goal.invariant-loop-at
invariant-loop-at l = IsPropagated l.reasons.set.now l.reasons.log.now l.fn.trail.entries.items l.trail.marks.items l.trail.entries.items None

abbrev pub decreases-loop-at : goal.decreases-loop-at
decreases-loop-at l = vec_len l.row - l.at
