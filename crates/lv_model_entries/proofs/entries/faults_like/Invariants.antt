use Rattle.std.proofs.Common.{◌≡◌}
use Rattle.lv_model_entries.specs.Entries.{faults_to}
use Rattle.lv_model_entries.proofs.entries.faults_like.Given as goal

-- the faults from the modes so far
abbrev pub invariant-modes : goal.invariant-modes
invariant-modes l = l.faults.items ≡ faults_to l.fault.target l.fault.cost.0 l.fault.guard l.fault.line l.mode
