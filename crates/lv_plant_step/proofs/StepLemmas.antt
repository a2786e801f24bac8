-- The plant's step is the first of all plant steps.
use Rattle.std.proofs.Common.{◌≡◌, ℕ, true, false, List, ◌++◌, length, take, drop, Option, Some, None, is_some, option_map, refl, sym, subst, ap, ◌∙◌}
use Rattle.std.specs.Option.{option_map_or}
use Rattle.std.proofs.lemmas.List.{take-append-drop}
use Rattle.lv_base.specs.declared.ids.ValId.{ValId}
use Rattle.lv_model.specs.declared.plant.Plant.{Plant}
use Rattle.lv_model.specs.Lists.{sizes}
use Rattle.lv_plant_step.specs.declared.asked.Asked.{Asked}
use Rattle.lv_plant_step.specs.declared.asked.PlantStep.{PlantStep}
use Rattle.lv_plant_step.specs.FirstList.{first_list, comes_before}
use Rattle.lv_plant_step.specs.PlantSteps.{places, step_of, are_plant_step, plant_step}
use Rattle.lv_plant_step.specs.Finding.{are_values}
use Rattle.lv_plant_step.specs.Laws.{IsPlantStep, PlantStepIsFirst}
use Rattle.lv_plant_step.proofs.FirstListLemmas.{IsFirst, first_some, none_passes}
use Rattle.lv_plant_step.proofs.SolutionLemmas.{assignment_values, values_joined, values_halves, plant_step_reads, reads_plant_step, joined_step}

module _ (plant : Plant) (asked : Asked) where
  -- a plant step's values in one list
  record InOne (s : PlantStep) : Type 0 where
    values : are_values (places plant) (s.before ++ s.after) ≡ true
    passes : are_plant_step plant asked (s.before ++ s.after) ≡ true

  in_one : (s : PlantStep) → IsPlantStep plant asked s → InOne s
  in_one s h =
      record {
        values =
            values_joined (sizes plant) (sizes plant) s.before s.after (assignment_values (sizes plant) s.before h.step.before) (assignment_values (sizes plant) s.after h.step.after);
        passes = joined_step plant asked s.before s.after h.step.before.whole (reads_plant_step plant asked s h);
      }

  -- the list that was found first, and the step of its values
  record FoundIn (s : PlantStep) : Type 0 where
    whole : List ValId
    first : IsFirst (places plant) (are_plant_step plant asked) whole
    step : step_of plant whole ≡ s

  found_in : (s : PlantStep) → plant_step plant asked ≡ Some s → FoundIn s
  found_in s h = by (first_list (places plant) (are_plant_step plant asked)) refl h
    where
      unwrapped : (x y : PlantStep) → Some x ≡ Some y → x ≡ y
      unwrapped x y e = ap (λ (o : Option PlantStep). option_map_or (λ (z : PlantStep). z) o x) e

      by : (o : Option (List ValId)) → first_list (places plant) (are_plant_step plant asked) ≡ o → option_map (step_of plant) o ≡ Some s → FoundIn s
      by (Some vs) e some = record { whole = vs; first = first_some (places plant) (are_plant_step plant asked) vs e; step = unwrapped (step_of plant vs) s some }
      by None e some = absurd (cc some)

  pub step_is : (s : PlantStep) → plant_step plant asked ≡ Some s → IsPlantStep plant asked s
  step_is s h =
      let f : FoundIn s = found_in s h in
      let halves = values_halves (sizes plant) (sizes plant) f.whole f.first.values in
      subst (λ (x : PlantStep). IsPlantStep plant asked x) f.step
      (plant_step_reads plant asked (take (length (sizes plant)) f.whole) (drop (length (sizes plant)) f.whole) halves.0 halves.1 f.first.passes)

  pub step_first : (s other : PlantStep) → plant_step plant asked ≡ Some s → IsPlantStep plant asked other → comes_before (other.before ++ other.after) (s.before ++ s.after) ≡ false
  step_first s other h is =
      let f : FoundIn s = found_in s h in
      let o : InOne other = in_one other is in
      let same : s.before ++ s.after ≡ f.whole = sym (ap (λ (x : PlantStep). x.before ++ x.after) f.step) ∙ take-append-drop (length (sizes plant)) f.whole in
      ap (comes_before (other.before ++ other.after)) same ∙ f.first.least (other.before ++ other.after) o.values o.passes

  pub step_none : (s : PlantStep) → plant_step plant asked ≡ None → IsPlantStep plant asked s → ⊥
  step_none s h is = by (first_list (places plant) (are_plant_step plant asked)) refl h
    where
      o : InOne s
      o = in_one s is

      by : (found : Option (List ValId)) → first_list (places plant) (are_plant_step plant asked) ≡ found → option_map (step_of plant) found ≡ None → ⊥
      by (Some vs) e none = cc none
      by None e none =
          let clash : true ≡ false = sym o.passes ∙ none_passes (places plant) (are_plant_step plant asked) e (s.before ++ s.after) o.values in
          cc clash

  pub step_found : (s : PlantStep) → IsPlantStep plant asked s → is_some (plant_step plant asked) ≡ true
  step_found s is = by (plant_step plant asked) refl
    where
      by : (o : Option PlantStep) → plant_step plant asked ≡ o → is_some (plant_step plant asked) ≡ true
      by (Some x) e = ap is_some e
      by None e = absurd (step_none s e is)

pub is_first : PlantStepIsFirst
is_first =
    record {
      is = λ plant asked s h. step_is plant asked s h;
      first = λ plant asked s other h is. step_first plant asked s other h is;
      none = λ plant asked s h is. step_none plant asked s h is;
      found = λ plant asked s is. step_found plant asked s is;
    }

-- what is found is the step

pub step_told : (plant : Plant) (asked : Asked) (vs : List ValId) (s : PlantStep) (width : ℕ) → width ≡ length (sizes plant) → first_list (places plant) (are_plant_step plant asked) ≡ Some vs
    → s ≡ record { before = take width vs; after = drop width vs } → Some s ≡ plant_step plant asked
step_told plant asked vs s width is found same =
    ap Some (same ∙ ap (λ (n : ℕ). record { before = take n vs; after = drop n vs }) is) ∙ sym (ap (option_map (step_of plant)) found)

pub none_told : (plant : Plant) (asked : Asked) → first_list (places plant) (are_plant_step plant asked) ≡ None → None ≡ plant_step plant asked
none_told plant asked found = sym (ap (option_map (step_of plant)) found)
