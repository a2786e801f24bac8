-- A session that is driven, at each exit: what was expected, and the opens.
use Rattle.lv_run_words.specs.Words.{drives}
use Rattle.lv_run.specs.declared.status.Status.TheVariants.{Done}
use Rattle.lv_run.proofs.OpenLemmas.{sink_end, opens_nothing}
use Rattle.lv_run.proofs.ExpectedLemmas.{ended_at_model, follows_at_model, driven_whole, driven_partly, is_driven}
use Rattle.lv_run.proofs.commands.drive.Goals as goal

pub returns-in_err-text-clause-meets : goal.returns-in_err-text-clause-meets
returns-in_err-text-clause-meets g c =
    λ file. ended_at_model file (drives c.args.number) c.in_err-text.field-0.0 _ _ tt
    c.in_err-text.ensures.ends c.in_err-text.ensures.refused c.from_residual.ensures.1

pub returns-in_err-text-clause-follows : goal.returns-in_err-text-clause-follows
returns-in_err-text-clause-follows g c =
    λ file. follows_at_model file (drives c.args.number) c.in_err-text.field-0.0 _
    c.in_err-text.ensures.ends c.in_err-text.ensures.refused c.from_residual.ensures.1

pub returns-in_err-text-clause-opens : goal.returns-in_err-text-clause-opens
returns-in_err-text-clause-opens g c = λ opens. opens_nothing opens _

pub returns-in_err-write_text-clause-meets : goal.returns-in_err-write_text-clause-meets
returns-in_err-write_text-clause-meets g c =
    λ file. driven_partly file _ _ _ _ _ c.in_ok-text.ensures.text
    (sink_end _ c.in_err-write_text.field-0.0 c.from_residual-in_err-write_text.ensures.1)
    (rw c.as_slice.ensures.value at c.in_err-write_text.ensures.front)

pub returns-in_err-write_text-clause-opens : goal.returns-in_err-write_text-clause-opens
returns-in_err-write_text-clause-opens g c = λ opens. opens_nothing opens _

pub returns-clause-meets : goal.returns-clause-meets
returns-clause-meets g c =
    λ file. driven_whole file _ _ _ _ c.in_ok-text.ensures.text (rw c.as_slice.ensures.value at c.in_ok-write_text.ensures.text)

pub returns-clause-follows : goal.returns-clause-follows
returns-clause-follows g c = λ file. is_driven file c.args.number _ c.in_ok-text.ensures.text

pub returns-clause-opens : goal.returns-clause-opens
returns-clause-opens g c = λ opens. opens_nothing opens Done
