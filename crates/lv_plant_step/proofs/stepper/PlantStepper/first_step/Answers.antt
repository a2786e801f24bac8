-- all values are settled, or there is no step
use Rattle.std.proofs.Common.{List, ℕ, length, ap, ◌∙◌}
use Rattle.lv_model.specs.declared.plant.Plant.{Plant}
use Rattle.lv_model.specs.Lists.{sizes}
use Rattle.lv_system.specs.lv_compile.Booleans.{Booleans}
use Rattle.lv_plant_step.proofs.SettledLemmas.{nothing_settled, step_settled}
use Rattle.lv_plant_step.proofs.stepper.PlantStepper.first_step.Goals as goal

pub returns-in_default-clause-step : goal.returns-in_default-clause-step
returns-in_default-clause-step c = nothing_settled c.args.self.now c.args.asked.now c.in_ok-lead.field-0 c.in_ok-lead.ensures.leads c.in_default.is

pub returns-clause-step : goal.returns-clause-step
returns-clause-step c =
    step_settled c.args.self.now c.args.asked.now c.in_ok-lead.field-0 c.in_ok-lead.ensures.leads c.in-Some.lead c.settle_all.new.lead c.in-Some.is c.begin.new.self c.in_ok-lead.ensures.kept
    (c.in_ok-settle_all.ensures.led c.args.asked.now) c.as_slice.result.now c.as_slice.ensures (length c.sizes-width.result.now)
    (ap (λ (ns : List ℕ). length ns) (c.sizes-width.ensures.sizes ∙ ap (λ (b : Booleans). b.sizes) (c.bools_at.ensures ∙ c.self.invariant.of_plant.before))
    ∙ ap (λ (p : Plant). length (sizes p)) (c.self.view_is ∙ c.in_ok-settle_all.ensures.kept ∙ c.in_ok-lead.ensures.kept))
    c.in_ok-split.field-0 c.in_ok-split.ensures
