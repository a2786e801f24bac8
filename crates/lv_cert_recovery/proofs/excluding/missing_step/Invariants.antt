use Rattle.std.proofs.Common.{◌≡◌, drop}
use Rattle.lv_cert_recovery.specs.Telling.{MissesLeft}
use Rattle.lv_cert_recovery.proofs.excluding.missing_step.Given as goal

abbrev pub invariant-loop-goal : goal.invariant-loop-goal
invariant-loop-goal l = record { left : MissesLeft l.asking.plant l.asking.aim l.state l.pairs (drop l.goal-index l.goal-items) l.goal-items; kept : l.refuter ≡ l.fn.refuter }
