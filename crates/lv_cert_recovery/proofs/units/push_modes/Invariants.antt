use Rattle.std.proofs.Common.{◌≡◌, ◌++◌, drop}
use Rattle.lv_cert_laws.specs.lv_cert_meaning.Units.{mode_literals}
use Rattle.lv_cert_recovery.proofs.units.push_modes.Given as goal

abbrev pub invariant-loop-k : goal.invariant-loop-k
invariant-loop-k l = l.lits.items ++ mode_literals l.model (drop l.k l.model.parts) (drop l.k l.modes) ≡ l.initial.lits.items ++ mode_literals l.model l.model.parts l.modes
