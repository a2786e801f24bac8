-- what is left decides
use Rattle.std.proofs.Common.{◌≡◌, drop}
use Rattle.lv_base.specs.Choices.{pairs_from, pairs_of}
use Rattle.lv_meaning.specs.Recovers as Recovers
use Rattle.lv_cert_meaning.proofs.steps.has_controls.Given as goal

abbrev pub invariant-loop-place : goal.invariant-loop-place
invariant-loop-place l = Recovers.has_controls l.controls l.a (pairs_from l.place (drop l.place l.values)) ≡ Recovers.has_controls l.controls l.a (pairs_of l.values)
