-- The summary of the session that was made.
use Rattle.std.proofs.lemmas.Result.{IfOk-weaker}
use Rattle.lv_run.proofs.Tallying.{summed_up}
use Rattle.lv_run.proofs.summary.drive.Goals as goal

pub returns : goal.returns
returns c =
    IfOk-weaker c.summary.result _ _
    (λ text is. summed_up c.args.model.now c.args.number _ text.items _ c.in_ok-session.ensures (rw c.as_slice.ensures.value at c.in_ok-tally.ensures) is)
    c.summary.ensures
