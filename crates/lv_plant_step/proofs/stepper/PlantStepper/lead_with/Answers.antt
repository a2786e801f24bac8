-- what the solver answers is a step, or tells that there is none
use Rattle.std.proofs.Common.{◌≡◌, true, List, Bool, subst, ◌∙◌}
use Rattle.lv_model.specs.declared.plant.Plant.{Plant}
use Rattle.lv_model.specs.WellFormed.{is_well_formed}
use Rattle.lv_system.specs.System.{IsSystemOf}
use Rattle.lv_plant_step.specs.Finding.{AreDecoded}
use Rattle.lv_plant_step.proofs.SolutionLemmas.{found_lead, found_can, none_begins}
use Rattle.lv_plant_step.proofs.stepper.PlantStepper.lead_with.Goals as goal
use Rattle.lv_plant_step.proofs.stepper.PlantStepper.lead_with.Goals.{in-Some+in_ok-values-in-Some, in-None}

pub returns-clause-leads : goal.returns-clause-leads
returns-clause-leads c =
    let well : is_well_formed c.args.self.now ≡ true =
    subst (λ (p : Plant). is_well_formed p ≡ true) (c.plant-plant.ensures.plant ∙ c.self.view_is) c.plant-plant.ensures.well_formed
    in
    let is : IsSystemOf c.args.self.now c.self.inside.system.now = subst (λ (p : Plant). IsSystemOf p c.self.inside.system.now) c.self.view_is c.self.invariant.of_plant in
    λ asked front asks.
    elim c.match-branch-2.branch [
      | in-Some+in_ok-values-in-Some w ↦ rw w.result-is
          (found_lead c.args.self.now well c.self.inside.system.now is asked front c.args.assumed asks c.self.inside.solver.set w.in-Some.truth w.in_ok-values-in-Some.values (rw w.in-Some.is at c.in_ok-truth.ensures.answer)
          (subst (λ (truth : List Bool). AreDecoded c.self.inside.system.now truth w.in_ok-values-in-Some.values) w.as_slice.ensures w.in_ok-values-in-Some.ensures))
      | in-None w ↦ rw w.result-is
          (none_begins c.args.self.now well c.self.inside.system.now is asked front c.args.assumed asks c.self.inside.solver.set c.self.invariant.clauses (rw w.in-None.is at c.in_ok-truth.ensures.answer))
    ]

pub returns-clause-ranged : goal.returns-clause-ranged
returns-clause-ranged c =
    let well : is_well_formed c.args.self.now ≡ true =
    subst (λ (p : Plant). is_well_formed p ≡ true) (c.plant-plant.ensures.plant ∙ c.self.view_is) c.plant-plant.ensures.well_formed
    in
    let is : IsSystemOf c.args.self.now c.self.inside.system.now = subst (λ (p : Plant). IsSystemOf p c.self.inside.system.now) c.self.view_is c.self.invariant.of_plant in
    elim c.match-branch-2.branch [
      | in-Some+in_ok-values-in-Some w ↦ rw w.result-is
          (found_can c.args.self.now well c.self.inside.system.now is c.args.assumed w.in-Some.truth w.in_ok-values-in-Some.values c.requires
          (subst (λ (truth : List Bool). AreDecoded c.self.inside.system.now truth w.in_ok-values-in-Some.values) w.as_slice.ensures w.in_ok-values-in-Some.ensures))
      | in-None w ↦ rw w.result-is tt
    ]
