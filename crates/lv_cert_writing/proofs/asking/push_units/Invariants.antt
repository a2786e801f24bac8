use Rattle.std.proofs.Common.{◌≡◌, ◌++◌, drop}
use Rattle.lv_cert_meaning.specs.Units.{units}
use Rattle.lv_cert_writing.proofs.asking.push_units.Given as goal

abbrev pub invariant-loop-lit : goal.invariant-loop-lit
invariant-loop-lit l = l.out.items ++ units (drop l.lit-index l.lits) ≡ l.initial.out.items ++ units l.lits
