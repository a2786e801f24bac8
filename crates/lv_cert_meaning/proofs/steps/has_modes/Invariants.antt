-- what is left decides
use Rattle.std.proofs.Common.{◌≡◌, drop}
use Rattle.lv_meaning.specs.Recovers as Recovers
use Rattle.lv_cert_meaning.proofs.steps.has_modes.Given as goal

abbrev pub invariant-loop-k : goal.invariant-loop-k
invariant-loop-k l = Recovers.has_modes (drop l.k l.parts) (drop l.k l.modes) l.a ≡ Recovers.has_modes l.parts l.modes l.a
