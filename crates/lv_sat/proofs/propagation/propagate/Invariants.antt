-- the trail goes on, and no clause was found false; each turn is one entry further
use Rattle.std.proofs.Common.{◌-◌, None}
use Rattle.lv_trail.specs.Trail.{IsPropagated}
use Rattle.lv_sat.proofs.propagation.propagate.Given as goal

abbrev pub invariant-loop-at : goal.invariant-loop-at
invariant-loop-at l = IsPropagated l.reasons.set.now l.reasons.log.now l.fn.trail.entries.items l.trail.marks.items l.trail.entries.items None

abbrev pub decreases-loop-at : goal.decreases-loop-at
decreases-loop-at l = l.reasons.set.now.bools - l.at
