-- what is valid answers rightly
use Rattle.std.proofs.Common.{◌≡◌, ◌∙◌, true, ap, subst}
use Rattle.lv_model.specs.declared.plant.Plant.{Plant}
use Rattle.lv_model.specs.WellFormed.{is_well_formed}
use Rattle.lv_certcheck.specs.Verdicts.{verdict}
use Rattle.lv_certcheck.proofs.ProvingLemmas.{lines_right}
use Rattle.lv_certcheck.proofs.check.check_cert.Goals as goal

pub returns-clause-proves : goal.returns-clause-proves
returns-clause-proves c =
    lines_right c.args.model.now (subst (λ (p : Plant). is_well_formed p ≡ true) c.plant-plant.ensures.plant c.plant-plant.ensures.well_formed) c.args.cert.now.lines c.args.cert.now.order
    c.in_ok-verdict.verdict (c.in_ok-verdict.ensures ∙ ap (verdict c.args.model.now) c.lines.ensures)
