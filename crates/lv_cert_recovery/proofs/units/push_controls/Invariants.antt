use Rattle.std.proofs.Common.{◌≡◌, ◌++◌, drop, map}
use Rattle.lv_cert_laws.specs.lv_cert_meaning.Units.{control_literal}
use Rattle.lv_cert_recovery.proofs.units.push_controls.Given as goal

abbrev pub invariant-loop-pair : goal.invariant-loop-pair
invariant-loop-pair l = l.lits.items ++ map (control_literal l.model) (drop l.pair-index l.pairs) ≡ l.initial.lits.items ++ map (control_literal l.model) l.pairs
