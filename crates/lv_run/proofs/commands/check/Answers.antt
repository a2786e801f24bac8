-- A check at each exit: what was expected, what is known of the model and the certificate, and the opens.
use Rattle.std.proofs.Common.{ℕ, subst, ◌∙◌}
use Rattle.lv_io.specs.Outside.{Rose}
use Rattle.lv_io.specs.declared.Role.TheVariants.{Second}
use Rattle.lv_run_words.specs.Words.{checks}
use Rattle.std.specs.Prelude.{Some}
use Rattle.lv_run.proofs.OpenLemmas.{opened_at_model, opened_at_second}
use Rattle.lv_run.proofs.SecondLemmas.{check_ends}
use Rattle.lv_run.proofs.ExpectedLemmas.{ended_at_model, follows_at_model, judged_meets, judged_follows, judged_verdict, second_silent, second_no_model}
use Rattle.lv_run.proofs.commands.check.Goals as goal

pub returns-in_err-plant-clause-meets : goal.returns-in_err-plant-clause-meets
returns-in_err-plant-clause-meets g c =
    ended_at_model (g.F.Shelf.file c.args.shelf.now) (checks c.args.model.now c.args.cert.now) c.in_err-plant.field-0.0 _ _ tt
    c.in_err-plant.ensures.ends c.in_err-plant.ensures.refused c.from_residual.ensures.1

pub returns-in_err-plant-clause-follows : goal.returns-in_err-plant-clause-follows
returns-in_err-plant-clause-follows g c =
    follows_at_model (g.F.Shelf.file c.args.shelf.now) (checks c.args.model.now c.args.cert.now) c.in_err-plant.field-0.0 _
    c.in_err-plant.ensures.ends c.in_err-plant.ensures.refused c.from_residual.ensures.1

pub returns-in_err-plant-clause-opens : goal.returns-in_err-plant-clause-opens
returns-in_err-plant-clause-opens g c =
    opened_at_model _ _ _ _ c.in_err-plant.field-0.0 _
    c.in_err-plant.ensures.ends c.from_residual.ensures.1 c.in_err-plant.ensures.opens.front
    (λ other. c.in_err-plant.ensures.opens.whole (λ e. other (cc)))

pub returns-clause-meets : goal.returns-clause-meets
returns-clause-meets g c =
    judged_meets _ _ _ _ _ _ _ c.judge_certificate.result c.load_model.ensures.files c.in_ok-plant.ensures.model c.judge_certificate.ensures.told

pub returns-clause-verdict : goal.returns-clause-verdict
returns-clause-verdict g c =
    judged_verdict (g.F.Shelf.file c.args.shelf.now) _ c.args.model.now c.args.cert.now _ _ _ c.judge_certificate.result c.load_model.ensures.files
    c.in_ok-plant.ensures.model c.judge_certificate.ensures.told c.judge_certificate.ensures.ends

pub returns-clause-follows : goal.returns-clause-follows
returns-clause-follows g c =
    judged_follows (g.F.Shelf.file c.args.shelf.now) c.args.model.now c.args.cert.now _ c.judge_certificate.result c.in_ok-plant.ensures.model
    (returns-clause-verdict g c) c.judge_certificate.ensures.ends

pub returns-clause-silent : goal.returns-clause-silent
returns-clause-silent g c =
    second_silent (Some (checks c.args.model.now c.args.cert.now)) c.judge_certificate.result _ _
    (check_ends c.judge_certificate.result c.judge_certificate.ensures.ends)
    (λ asked. c.judge_certificate.ensures.unread) (λ asked. c.judge_certificate.ensures.too_long)

pub returns-clause-opens : goal.returns-clause-opens
returns-clause-opens g c =
    opened_at_second _ _ _ _ _ c.judge_certificate.result (check_ends c.judge_certificate.result c.judge_certificate.ensures.ends)
    (c.in_ok-plant.ensures.opens.whole (λ e. cc)) c.judge_certificate.ensures.opens c.judge_certificate.ensures.opened

pub returns-clause-shelf : goal.returns-clause-shelf
returns-clause-shelf g c =
    record {
      model_unread = λ e. absurd (second_no_model c.judge_certificate.result (check_ends c.judge_certificate.result c.judge_certificate.ensures.ends) e);
      second_unread = λ e. subst (λ (n : ℕ). Rose n (g.F.Shelf.faults c.judge_certificate.new.shelf Second)) (c.in_ok-plant.ensures.opens.as_before (λ f. cc) Second) (c.judge_certificate.ensures.failed e);
      as_before = λ model session r. c.judge_certificate.ensures.as_before session r ∙ c.in_ok-plant.ensures.opens.as_before (λ f. cc) r;
    }
