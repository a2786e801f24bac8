use Rattle.std.proofs.Common.{◌≡◌, ◌++◌, drop}
use Rattle.lv_cert_laws.specs.lv_cert_meaning.Units.{no_fault_of}
use Rattle.lv_cert_recovery.proofs.units.push_no_faults_of.Given as goal

abbrev pub invariant-loop-n : goal.invariant-loop-n
invariant-loop-n l = l.lits.items ++ no_fault_of l.model l.part l.n (drop l.n l.moves) ≡ l.initial.lits.items ++ no_fault_of l.model l.part 0 l.moves
