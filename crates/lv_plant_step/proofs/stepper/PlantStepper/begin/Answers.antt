-- all that is asked is assumed, and nothing else
use Rattle.std.proofs.Common.{◌≡◌, [], ap, ◌∙◌}
use Rattle.lv_clauses.specs.ClauseMap.{ClauseMap}
use Rattle.lv_model.specs.declared.plant.Plant.{Plant}
use Rattle.lv_system.specs.lv_compile.Booleans.{bool_count}
use Rattle.lv_plant_step.specs.Assuming.{Assumption}
use Rattle.lv_plant_step.specs.Literals.{asked_literals}
use Rattle.lv_plant_step.proofs.AskedLemmas.{asked_are_lits, asks_all}
use Rattle.lv_plant_step.proofs.stepper.PlantStepper.begin.Goals as goal

pub assume_all-requires : goal.assume_all-requires
assume_all-requires c =
    let count : c.bools.result ≡ bool_count c.args.self.now =
    c.bools.ensures ∙ ap (λ (s : ClauseMap). s.bools) c.clauses.ensures ∙ c.self.invariant.of_plant.bools ∙ ap bool_count c.self.view_is
    in
    asked_are_lits c.args.self.now c.args.asked.now c.requires c.as_slice.result.now
    (c.as_slice.ensures.value ∙ c.in_ok-lits.ensures ∙ ap (λ (p : Plant). asked_literals p c.args.asked.now) c.self.view_is) c.in_ok-assumed.assumed.bools
    (ap (λ (s : Assumption). s.bools) c.in_ok-assumed.ensures ∙ count)

pub returns-clause-leads : goal.returns-clause-leads
returns-clause-leads c =
    let count : c.bools.result ≡ bool_count c.args.self.now =
    c.bools.ensures ∙ ap (λ (s : ClauseMap). s.bools) c.clauses.ensures ∙ c.self.invariant.of_plant.bools ∙ ap bool_count c.self.view_is
    in
    c.lead_with.ensures.leads c.args.asked.now []
    (asks_all c.args.self.now c.args.asked.now c.requires c.in_ok-assumed.assumed c.assume_all.new.assumed c.as_slice.result.now c.bools.result count c.in_ok-assumed.ensures
    (c.as_slice.ensures.value ∙ c.in_ok-lits.ensures ∙ ap (λ (p : Plant). asked_literals p c.args.asked.now) c.self.view_is) c.in_ok-assume_all.ensures)
