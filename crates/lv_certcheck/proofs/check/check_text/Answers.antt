-- what is valid proves its answer
use Rattle.std.proofs.Common.{◌≡◌, true, subst}
use Rattle.lv_model.specs.declared.plant.Plant.{Plant}
use Rattle.lv_model.specs.WellFormed.{is_well_formed}
use Rattle.lv_certcheck.proofs.ProvingLemmas.{valid_proves}
use Rattle.lv_certcheck.proofs.check.check_text.Goals as goal

pub returns-clause-proves : goal.returns-clause-proves
returns-clause-proves c =
    valid_proves c.args.model.now (subst (λ (p : Plant). is_well_formed p ≡ true) c.plant-plant.ensures.plant c.plant-plant.ensures.well_formed) c.args.bytes.now c.in_ok-verdict.verdict c.in_ok-verdict.ensures
