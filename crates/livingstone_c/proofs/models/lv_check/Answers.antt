use Rattle.std.proofs.Common.{Some, subst, ap, ◌∙◌}
use Rattle.std.specs.Option.{IsSomeAnd}
use Rattle.lv_certcheck.specs.Verdicts.{IsVerdictOn}
use Rattle.lv_certcheck.specs.declared.check.Verdict.TheVariants as Verdict
use Rattle.livingstone_c.proofs.models.lv_check.Goals as goal

pub returns-clause-valid : goal.returns-clause-valid
returns-clause-valid c done =
    subst (λ o. IsSomeAnd o (λ held. IsVerdictOn held.model.now c.args.certificate.now Verdict.Valid)) (ap Some c.deref.ensures ∙ c.take-held.ensures.value) (c.judge-number.ensures.valid done)

pub returns-clause-invalid : goal.returns-clause-invalid
returns-clause-invalid c done =
    subst (λ o. IsSomeAnd o (λ held. IsVerdictOn held.model.now c.args.certificate.now (Verdict.Invalid c.judge-number.new.bad_line))) (ap Some c.deref.ensures ∙ c.take-held.ensures.value) (c.judge-number.ensures.invalid done)
