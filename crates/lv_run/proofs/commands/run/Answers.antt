-- A run at each exit: what was expected, what is known of the model, and the opens.
use Rattle.std.proofs.Common.{ℕ, subst, ◌∙◌}
use Rattle.lv_io.specs.Outside.{Rose}
use Rattle.lv_io.specs.declared.Role.TheVariants.{Second}
use Rattle.lv_run_words.specs.Words.{runs}
use Rattle.lv_run.proofs.OpenLemmas.{opened_at_model, opened_at_second}
use Rattle.lv_run.proofs.SecondLemmas.{session_ends}
use Rattle.lv_run.proofs.ExpectedLemmas.{ended_at_model, follows_at_model, served_meets, served_follows, served_verdict, served_silent, second_no_model}
use Rattle.lv_run.proofs.commands.run.Goals as goal

pub returns-in_err-model-clause-meets : goal.returns-in_err-model-clause-meets
returns-in_err-model-clause-meets g c =
    ended_at_model (g.F.Shelf.file c.args.shelf.now) (runs c.args.service c.args.model.now c.args.session.now) c.in_err-model.field-0.0 _ _ tt
    c.in_err-model.ensures.ends c.in_err-model.ensures.refused c.from_residual.ensures.1

pub returns-in_err-model-clause-follows : goal.returns-in_err-model-clause-follows
returns-in_err-model-clause-follows g c =
    follows_at_model (g.F.Shelf.file c.args.shelf.now) (runs c.args.service c.args.model.now c.args.session.now) c.in_err-model.field-0.0 _
    c.in_err-model.ensures.ends c.in_err-model.ensures.refused c.from_residual.ensures.1

pub returns-in_err-model-clause-opens : goal.returns-in_err-model-clause-opens
returns-in_err-model-clause-opens g c =
    opened_at_model _ _ _ _ c.in_err-model.field-0.0 _
    c.in_err-model.ensures.ends c.from_residual.ensures.1 c.in_err-model.ensures.opens.front
    (λ other. c.in_err-model.ensures.opens.whole (λ e. other (cc)))

pub returns-clause-meets : goal.returns-clause-meets
returns-clause-meets g c =
    served_meets _ _ _ _ _ _ _ _ c.serve_session.result c.load_model.ensures.files c.in_ok-model.ensures.model c.serve_session.ensures.told

pub returns-clause-follows : goal.returns-clause-follows
returns-clause-follows g c =
    served_follows c.args.service (g.F.Shelf.file c.args.shelf.now) c.args.model.now c.args.session.now _ c.serve_session.result c.in_ok-model.ensures.model
    c.serve_session.ensures.done c.serve_session.ensures.ends

pub returns-clause-verdict : goal.returns-clause-verdict
returns-clause-verdict g c =
    served_verdict c.args.service (g.F.Shelf.file c.args.shelf.now) c.args.model.now c.args.session.now c.serve_session.result c.serve_session.ensures.done c.serve_session.ensures.ends

pub returns-clause-silent : goal.returns-clause-silent
returns-clause-silent g c =
    served_silent c.args.service c.args.model.now c.args.session.now c.serve_session.result _ _ c.serve_session.ensures.ends

pub returns-clause-opens : goal.returns-clause-opens
returns-clause-opens g c =
    opened_at_second _ _ _ _ _ c.serve_session.result (session_ends c.serve_session.result c.serve_session.ensures.ends)
    (c.in_ok-model.ensures.opens.whole (λ e. cc)) c.serve_session.ensures.opens c.serve_session.ensures.opened

pub returns-clause-shelf : goal.returns-clause-shelf
returns-clause-shelf g c =
    record {
      model_unread = λ e. absurd (second_no_model c.serve_session.result (session_ends c.serve_session.result c.serve_session.ensures.ends) e);
      second_unread = λ e. subst (λ (n : ℕ). Rose n (g.F.Shelf.faults c.serve_session.new.shelf Second)) (c.in_ok-model.ensures.opens.as_before (λ f. cc) Second) (c.serve_session.ensures.failed e);
      as_before = λ model session r. c.serve_session.ensures.as_before session r ∙ c.in_ok-model.ensures.opens.as_before (λ f. cc) r;
    }
