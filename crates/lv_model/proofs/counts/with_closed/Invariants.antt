-- the denials so far
use Rattle.std.proofs.Common.{◌≡◌, ◌+◌, take, sum_by}
use Rattle.lv_model.specs.Counts.{held}
use Rattle.lv_model.specs.Denials.{denied}
use Rattle.lv_model.proofs.counts.with_closed.Given as goal

abbrev pub invariant-loop-denial : goal.invariant-loop-denial
invariant-loop-denial l = l.out ≡ held (l.total + sum_by (denied l.mode.0) (take l.denial-index l.denials))
