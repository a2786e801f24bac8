-- behind a step the parts are in modes that they have, and no fault is named
use Rattle.std.proofs.Common.{◌≡◌, true, List, ◌∙◌, ap, sym, subst, length, replicate, Option, None}
use Rattle.std.specs.Cmp.Lexicographic.{pointwise}
use Rattle.lv_base.specs.declared.ids.MoveId.{MoveId}
use Rattle.lv_model.specs.declared.plant.Plant.{Plant}
use Rattle.lv_model.specs.Lists.{move_counts}
use Rattle.lv_model.specs.WellFormed.{is_well_formed}
use Rattle.lv_plant_step.specs.PlantSteps.{fault_fits}
use Rattle.lv_plant.specs.Seeing.{modes_in}
use Rattle.lv_plant.specs.Standing.{Standing, no_faults}
use Rattle.lv_plant.proofs.PlantLemmas.{gone, no_faults_fit}
use Rattle.lv_plant.proofs.plant.Plant.go_to.Goals as goal

pub invariant_of-self : goal.invariant_of-self
invariant_of-self c =
    let plant : c.plant-plant.result.now ≡ c.self.inside.compiled.now = c.plant-plant.ensures.plant ∙ c.model.ensures in
    let well : is_well_formed c.self.inside.compiled.now ≡ true = subst (λ (p : Plant). is_well_formed p ≡ true) plant c.plant-plant.ensures.well_formed in
    let same : c.args.self.now.session.plant ≡ c.self.inside.compiled.now = sym (ap (λ (s : Standing). s.session.plant) c.self.view_is) ∙ c.self.invariant.session_is in
    let modes : c.in_ok-modes.modes.items ≡ modes_in c.self.inside.compiled.now.parts c.as_slice-2.result.now =
    c.in_ok-modes.ensures ∙ ap (λ ps. modes_in ps c.as_slice-2.result.now) c.as_slice.ensures ∙ ap (λ (p : Plant). modes_in p.parts c.as_slice-2.result.now) plant in
    let faults : c.in_ok-faults.faults.items ≡ no_faults c.self.inside.compiled.now =
    c.in_ok-faults.ensures ∙ ap (λ ps. replicate (length ps) None) c.as_slice-3.ensures ∙ ap no_faults plant in
    record {
      session_is = c.self.invariant.session_is;
      stepper_is = c.self.invariant.stepper_is;
      goes_on = c.self.invariant.goes_on;
      modes = gone c.self.inside.compiled.now c.args.self.now.session.plant c.args.step.now c.as_slice-2.result.now c.in_ok-modes.modes.items well same c.requires.ends c.as_slice-2.ensures modes;
      faults = subst (λ (fs : List (Option MoveId)). pointwise fault_fits fs (move_counts c.self.inside.compiled.now) ≡ true) (sym faults) (no_faults_fit c.self.inside.compiled.now);
    }
