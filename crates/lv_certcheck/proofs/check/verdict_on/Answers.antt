-- the verdict on the lines that were read, or the first line that can't be
use Rattle.std.proofs.Common.{◌≡◌, ap, subst}
use Rattle.std.proofs.lemmas.Result.{IfOk-weaker}
use Rattle.lv_certcheck.specs.Verdicts.{verdict, IsVerdictOn, of_lines, of_form}
use Rattle.lv_certcheck.specs.declared.check.Verdict.{Verdict}
use Rattle.lv_certcheck.specs.declared.check.Verdict.TheVariants.{Invalid}
use Rattle.lv_cert.specs.Taking.{Tells}
use Rattle.lv_certcheck.proofs.check.verdict_on.Goals as goal

pub returns-in-Ok : goal.returns-in-Ok
returns-in-Ok c =
    IfOk-weaker c.check_cert.result (λ (v : Verdict). v ≡ verdict c.args.model.now c.in-Ok.cert.lines) (IsVerdictOn c.args.model.now c.args.bytes.now)
    (λ v told. of_lines c.in-Ok.cert.lines c.in-Ok.ensures.cert told) c.check_cert.ensures.verdict

pub returns-in-Err-Form : goal.returns-in-Err-Form
returns-in-Err-Form c = of_form c.in-Err-Form.line (subst (Tells c.args.bytes.now) c.in-Err-Form.field-0-is c.in-Err-Form.ensures.fault) (ap Invalid c.in-Err-Form.line-is)
