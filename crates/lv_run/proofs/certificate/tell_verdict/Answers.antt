-- The verdict on a certificate that was read: its line was written, or only a front of it.
use Rattle.std.proofs.Common.{◌∙◌, ap}
use Rattle.std.specs.Io.KnownBytes.{append_known}
use Rattle.lv_run.proofs.JudgedLemmas.{partly_told, without_memory}
use Rattle.lv_run.proofs.certificate.tell_verdict.Goals as goal

pub returns-in_err-write_text-clause-told : goal.returns-in_err-write_text-clause-told
returns-in_err-write_text-clause-told g c =
    partly_told c.args.model.now c.args.text.now c.in_ok-verdict.verdict _ _ _ _ c.in_err-write_text.field-0.0
    c.from_residual-in_err-write_text.ensures.1 c.in_ok-verdict.ensures.verdict c.in_ok-line.ensures
    (rw c.as_slice.ensures.value at c.in_err-write_text.ensures.front)

pub returns-in_err-line-clause-told : goal.returns-in_err-line-clause-told
returns-in_err-line-clause-told g c =
    λ within. without_memory c.args.model.now c.args.text.now (g.O.Sink.text c.args.out.now) c.from_residual-in_err-line.result c.from_residual-in_err-line.ensures.1

pub returns-clause-told : goal.returns-clause-told
returns-clause-told g c within =
    record {
      within = within;
      verdict = c.in_ok-verdict.verdict;
      is = c.in_ok-verdict.ensures.verdict;
      ends = c.verdict_end.ensures;
      written = c.in_ok-write_text.ensures.text ∙ ap (append_known (g.O.Sink.text c.args.out.now)) (c.as_slice.ensures.value ∙ c.in_ok-line.ensures);
    }
