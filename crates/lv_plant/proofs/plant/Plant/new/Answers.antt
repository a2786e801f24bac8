-- a plant begins with its parts in their starting modes, and no fault is named
use Rattle.std.proofs.Common.{◌≡◌, true, false, List, ◌∙◌, ap, sym, subst, length, replicate, Option, None}
use Rattle.std.specs.Cmp.Lexicographic.{pointwise}
use Rattle.lv_base.specs.declared.ids.ValId.{ValId}
use Rattle.lv_base.specs.declared.ids.MoveId.{MoveId}
use Rattle.lv_model.specs.declared.plant.Plant.{Plant}
use Rattle.lv_model.specs.Lists.{move_counts}
use Rattle.lv_model.specs.Ranges.{plant_ranges}
use Rattle.lv_model.specs.WellFormed.{is_well_formed}
use Rattle.lv_meaning.specs.Ranges.{modes_fit}
use Rattle.lv_plant_step.specs.PlantSteps.{fault_fits}
use Rattle.lv_session.specs.Session.{RunningSession}
use Rattle.lv_session.proofs.Fitting.{start_fits}
use Rattle.lv_plant.specs.Seeing.{start_modes}
use Rattle.lv_plant.specs.Standing.{no_faults}
use Rattle.lv_plant.proofs.PlantLemmas.{no_faults_fit}
use Rattle.lv_plant.proofs.plant.Plant.new.Goals as goal

pub invariant_of-result : goal.invariant_of-result
invariant_of-result c =
    let plant : c.plant-plant.result.now ≡ c.args.compiled.now = c.plant-plant.ensures.plant ∙ c.model.ensures in
    let well : is_well_formed c.args.compiled.now ≡ true = subst (λ (p : Plant). is_well_formed p ≡ true) plant c.plant-plant.ensures.well_formed in
    let modes : c.in_ok-modes.modes.items ≡ start_modes c.args.compiled.now.parts = c.in_ok-modes.ensures ∙ ap start_modes c.as_slice.ensures ∙ ap (λ (p : Plant). start_modes p.parts) plant in
    let faults : c.in_ok-faults.faults.items ≡ no_faults c.args.compiled.now =
    c.in_ok-faults.ensures ∙ ap (λ ps. replicate (length ps) None) c.as_slice-2.ensures ∙ ap no_faults plant in
    record {
      session_is = ap (λ (s : RunningSession). s.plant) c.in_ok-session.ensures;
      stepper_is = c.in_ok-stepper.ensures;
      goes_on = ap (λ (s : RunningSession). s.state.is_ended) c.in_ok-session.ensures;
      modes = subst (λ (vs : List ValId). modes_fit (plant_ranges c.args.compiled.now) c.args.compiled.now.parts vs ≡ true) (sym modes) (start_fits c.args.compiled.now well).modes;
      faults = subst (λ (fs : List (Option MoveId)). pointwise fault_fits fs (move_counts c.args.compiled.now) ≡ true) (sym faults) (no_faults_fit c.args.compiled.now);
    }

pub returns : goal.returns
returns c =
    let plant : c.plant-plant.result.now ≡ c.args.compiled.now = c.plant-plant.ensures.plant ∙ c.model.ensures in
    let modes : c.in_ok-modes.modes.items ≡ start_modes c.args.compiled.now.parts = c.in_ok-modes.ensures ∙ ap start_modes c.as_slice.ensures ∙ ap (λ (p : Plant). start_modes p.parts) plant in
    let faults : c.in_ok-faults.faults.items ≡ no_faults c.args.compiled.now =
    c.in_ok-faults.ensures ∙ ap (λ ps. replicate (length ps) None) c.as_slice-2.ensures ∙ ap no_faults plant in
    λ i. record { session = c.in_ok-session.ensures i; modes = modes i; faults = faults i; time = 0; is_halted = false; is_out_of_memory = false }
