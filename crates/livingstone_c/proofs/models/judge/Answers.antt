use Rattle.std.proofs.Common.{subst}
use Rattle.lv_certcheck.specs.Verdicts.{IsVerdictOn}
use Rattle.livingstone_c.proofs.models.judge.Goals as goal

pub returns-in-Ok-Valid-clause-valid : goal.returns-in-Ok-Valid-clause-valid
returns-in-Ok-Valid-clause-valid c done =
    subst (λ v. IsVerdictOn c.args.model.now c.args.certificate.now v) c.in-Ok-Valid.field-0-is c.in-Ok-Valid.ensures.verdict

pub returns-in-Ok-Invalid-clause-invalid : goal.returns-in-Ok-Invalid-clause-invalid
returns-in-Ok-Invalid-clause-invalid c done =
    subst (λ v. IsVerdictOn c.args.model.now c.args.certificate.now v) c.in-Ok-Invalid.field-0-is c.in-Ok-Invalid.ensures.verdict
