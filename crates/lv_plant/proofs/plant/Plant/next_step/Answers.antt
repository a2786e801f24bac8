-- a step that is found ends in values of the plant's variables
use Rattle.std.proofs.Common.{◌≡◌, sym, subst, ◌∙◌, ap, IfSome}
use Rattle.std.proofs.lemmas.Result.{IfOk-weaker}
use Rattle.lv_model.specs.declared.plant.Plant.{Plant}
use Rattle.lv_plant_step.specs.PlantSteps.{plant_step}
use Rattle.lv_plant.specs.Plants.{EndsIn}
use Rattle.lv_plant.specs.Standing.{Standing}
use Rattle.lv_plant.proofs.PlantLemmas.{step_ends}
use Rattle.lv_plant.proofs.plant.Plant.next_step.Goals as goal

pub returns-clause-ends : goal.returns-clause-ends
returns-clause-ends c =
    let plant : c.deref_mut.result.now ≡ c.args.self.now.session.plant =
    c.deref_mut.ensures.value ∙ c.self.invariant.stepper_is ∙ sym c.self.invariant.session_is ∙ ap (λ (s : Standing). s.session.plant) c.self.view_is in
    IfOk-weaker c.first_step.result (λ step. step ≡ plant_step c.deref_mut.result.now c.in_ok-asked.asked) (λ step. IfSome step (EndsIn c.args.self.now.session.plant))
    (λ step e. subst (λ (p : Plant). IfSome step (EndsIn p)) plant (step_ends c.deref_mut.result.now c.in_ok-asked.asked step e)) c.first_step.ensures.step
