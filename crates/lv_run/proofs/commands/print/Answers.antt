-- A model that is printed, at each exit: what was expected, and what is known of the model.
use Rattle.lv_run_words.specs.Words.{prints}
use Rattle.lv_run.proofs.OpenLemmas.{sink_end}
use Rattle.lv_run.proofs.ExpectedLemmas.{ended_at_model, follows_at_model, is_printed, shown_whole, shown_partly}
use Rattle.lv_run.proofs.commands.print.Goals as goal

pub returns-in_err-canonical-clause-meets : goal.returns-in_err-canonical-clause-meets
returns-in_err-canonical-clause-meets g c =
    ended_at_model (g.F.Shelf.file c.args.shelf.now) (prints c.args.model.now) c.in_err-canonical.field-0.0 _ _ tt
    c.in_err-canonical.ensures.ends c.in_err-canonical.ensures.refused c.from_residual.ensures.1

pub returns-in_err-canonical-clause-follows : goal.returns-in_err-canonical-clause-follows
returns-in_err-canonical-clause-follows g c =
    follows_at_model (g.F.Shelf.file c.args.shelf.now) (prints c.args.model.now) c.in_err-canonical.field-0.0 _
    c.in_err-canonical.ensures.ends c.in_err-canonical.ensures.refused c.from_residual.ensures.1

pub returns-in_err-write_text-clause-meets : goal.returns-in_err-write_text-clause-meets
returns-in_err-write_text-clause-meets g c =
    shown_partly _ _ _ _ _ _ c.in_ok-canonical.ensures.model
    (sink_end _ c.in_err-write_text.field-0.0 c.from_residual-in_err-write_text.ensures.1)
    (rw c.as_slice.ensures.value at c.in_err-write_text.ensures.front)

pub returns-clause-meets : goal.returns-clause-meets
returns-clause-meets g c =
    shown_whole _ _ _ _ _ c.in_ok-canonical.ensures.model (rw c.as_slice.ensures.value at c.in_ok-write_text.ensures.text)

pub returns-clause-follows : goal.returns-clause-follows
returns-clause-follows g c =
    is_printed (g.F.Shelf.file c.args.shelf.now) c.args.model.now _ c.in_ok-canonical.ensures.model
