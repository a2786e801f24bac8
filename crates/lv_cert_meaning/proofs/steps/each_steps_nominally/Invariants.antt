-- what is left decides
use Rattle.std.proofs.Common.{◌≡◌, drop}
use Rattle.std.specs.List.{list_all}
use Rattle.lv_cert_meaning.specs.Judging as Judging
use Rattle.lv_cert_meaning.proofs.steps.each_steps_nominally.Given as goal

abbrev pub invariant-loop-place : goal.invariant-loop-place
invariant-loop-place l =
    list_all (Judging.steps_nominally l.model.types l.a l.b) (drop l.place l.model.parts) ≡ list_all (Judging.steps_nominally l.model.types l.a l.b) l.model.parts
