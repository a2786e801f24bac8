-- the trail goes on, and no clause was found false
use Rattle.std.proofs.Common.{None}
use Rattle.lv_trail.specs.Trail.{IsPropagated}
use Rattle.lv_sat.proofs.propagation.visit_all.Given as goal

abbrev pub invariant-loop-hint : goal.invariant-loop-hint
invariant-loop-hint l = IsPropagated l.reasons.set.now l.reasons.log.now l.fn.trail.entries.items l.trail.marks.items l.trail.entries.items None
