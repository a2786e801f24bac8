-- A text that is made, at each exit: what was expected, and the opens.
use Rattle.lv_run.specs.declared.status.Status.TheVariants.{Done}
use Rattle.lv_run.proofs.OpenLemmas.{sink_end, opens_nothing}
use Rattle.lv_run.proofs.ExpectedLemmas.{memory_meets, made_whole, made_partly, is_made}
use Rattle.lv_run.proofs.commands.generate.Goals as goal

pub returns-in_err-text-clause-meets : goal.returns-in_err-text-clause-meets
returns-in_err-text-clause-meets g c = λ file e expects. memory_meets c.from_residual.result e _ c.from_residual.ensures.1

pub returns-in_err-write_text-clause-meets : goal.returns-in_err-write_text-clause-meets
returns-in_err-write_text-clause-meets g c =
    λ file. made_partly file _ _ _ _ _ _ c.in_ok-text.ensures
    (sink_end _ c.in_err-write_text.field-0.0 c.from_residual-in_err-write_text.ensures.1)
    (rw c.as_slice.ensures.value at c.in_err-write_text.ensures.front)

pub returns-clause-meets : goal.returns-clause-meets
returns-clause-meets g c =
    λ file. made_whole file _ _ _ _ _ c.in_ok-text.ensures (rw c.as_slice.ensures.value at c.in_ok-write_text.ensures.text)

pub returns-clause-follows : goal.returns-clause-follows
returns-clause-follows g c = λ file. is_made file c.args.kind c.args.number

pub returns-in_err-write_text-clause-opens : goal.returns-in_err-write_text-clause-opens
returns-in_err-write_text-clause-opens g c = λ opens. opens_nothing opens _

pub returns-clause-opens : goal.returns-clause-opens
returns-clause-opens g c = λ opens. opens_nothing opens Done
