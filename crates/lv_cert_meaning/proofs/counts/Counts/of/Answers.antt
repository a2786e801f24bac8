-- each list is the plant's, and not longer than the plant allows
use Rattle.std.proofs.Common.{◌≤◌, ◌∙◌, sym, subst, refl, length, slice_index_or, All}
use Rattle.lv_base.specs.declared.ids.VarId.{VarId}
use Rattle.lv_base.specs.declared.limits.TheConstants.{PARTS, VARIABLES}
use Rattle.lv_model.specs.declared.plant.Part.{Part}
use Rattle.lv_model.specs.declared.plant.Plant.{Plant}
use Rattle.lv_model.specs.Lists.{sizes, controls, variable_count, part_moves, IsFew}
use Rattle.lv_search_zones.proofs.ControlLemmas.{few_controls}
use Rattle.lv_cert_meaning.proofs.CountLemmas.{few_found, as_many}
use Rattle.lv_cert_meaning.proofs.counts.Counts.of.Goals as goal

pub returns : goal.returns
returns c =
    let plant = c.args.model.now in
    let most : variable_count plant ≤ VARIABLES = subst (λ (p : Plant). variable_count p ≤ VARIABLES) c.plant.ensures.plant c.plant.ensures.few in
    let few : All IsFew (sizes plant) = subst (All IsFew) c.in_ok-values.ensures.sizes c.in_ok-values.ensures.few in
    let modes = c.in_ok-modes.ensures ∙ rw (c.as_slice.ensures.value, c.in_ok-values.ensures.sizes, c.as_slice-2.ensures, c.plant.ensures.plant) refl in
    let controlled = c.in_ok-controlled.ensures ∙ rw (c.as_slice-3.ensures.value, c.in_ok-values.ensures.sizes, c.as_slice-4.ensures.value, c.in_ok-controls.ensures.controls) refl in
    record {
      values_are = c.in_ok-values.ensures.sizes;
      modes_are = modes;
      controlled_are = controlled;
      moves_are = c.in_ok-moves.ensures.counts;
      controls_are = c.in_ok-controls.ensures.controls;
      few_values = c.in_ok-values.ensures.few;
      few_modes = subst (All IsFew) (sym modes) (few_found (sizes plant) (λ (p : Part). p.first.0) plant.parts few);
      few_controlled = subst (All IsFew) (sym controlled) (few_found (sizes plant) (λ (x : VarId). x.0) (controls plant) few);
      few_moves = c.in_ok-moves.ensures.few;
      few_variables = subst (λ n. n ≤ VARIABLES) (sym c.in_ok-values.ensures.whole) most;
      few_parts = as_many (part_moves plant.types) plant.parts c.in_ok-moves.moves.items PARTS c.in_ok-moves.ensures.counts (subst (λ (p : Plant). length p.parts ≤ PARTS) c.plant.ensures.plant c.plant.ensures.count);
      few_controls = as_many (λ (x : VarId). slice_index_or (sizes plant) x.0 0) (controls plant) c.in_ok-controlled.controlled.items VARIABLES controlled (few_controls plant plant refl most (controls plant) refl);
    }
