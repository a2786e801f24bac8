use Rattle.std.proofs.Common.{◌≡◌, ◌++◌, drop}
use Rattle.lv_cert_laws.specs.lv_cert_meaning.Units.{no_fault_literals}
use Rattle.lv_cert_recovery.proofs.units.push_no_faults.Given as goal

abbrev pub invariant-loop-k : goal.invariant-loop-k
invariant-loop-k l = l.lits.items ++ no_fault_literals l.model l.k (drop l.k l.model.parts) ≡ l.initial.lits.items ++ no_fault_literals l.model 0 l.model.parts
