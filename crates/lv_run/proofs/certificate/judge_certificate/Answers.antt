-- A certificate that the shelf tells, by how its judging ended.
use Rattle.lv_run.proofs.JudgedLemmas.{unread_told, read_told, reading_ends, writing_ends, writing_not_unread, writing_not_long}
use Rattle.lv_run.proofs.certificate.judge_certificate.Goals as goal

pub returns-in_err-text-clause-told : goal.returns-in_err-text-clause-told
returns-in_err-text-clause-told g c =
    λ text told. unread_told c.args.model.now text _ _ _ c.in_err-text.field-0.0 c.from_residual.ensures.1 c.in_err-text.ensures.ends
    c.in_err-text.ensures.too_long told

pub returns-in_err-text-clause-ends : goal.returns-in_err-text-clause-ends
returns-in_err-text-clause-ends g c = reading_ends _ c.in_err-text.field-0.0 c.from_residual.ensures.1 c.in_err-text.ensures.ends

pub returns-clause-told : goal.returns-clause-told
returns-clause-told g c =
    λ text told. read_told c.args.model.now text _ _ _ _ c.tell_verdict.result c.in_ok-text.ensures.text c.in_ok-text.ensures.within
    (rw c.as_slice.ensures.value at c.tell_verdict.ensures.told) told

pub returns-clause-ends : goal.returns-clause-ends
returns-clause-ends g c = writing_ends c.tell_verdict.result c.tell_verdict.ensures.ends

pub returns-clause-unread : goal.returns-clause-unread
returns-clause-unread g c = writing_not_unread c.tell_verdict.result c.tell_verdict.ensures.ends

pub returns-clause-too_long : goal.returns-clause-too_long
returns-clause-too_long g c = writing_not_long c.tell_verdict.result c.tell_verdict.ensures.ends

pub returns-clause-failed : goal.returns-clause-failed
returns-clause-failed g c = writing_not_unread c.tell_verdict.result c.tell_verdict.ensures.ends
