-- Where the controls have the values of a recovery, and no fault is named, a plant step is a nominal step that reaches the goals.
use Rattle.std.proofs.Common.{◌≡◌, ◌+◌, ◌<◌, ℕ, zero, suc, Bool, true, false, ◌&&◌, nat_eq, nat_lt, List, [], ◌∷◌, length, map, drop, get_or, slice_get, replicate, Option, Some, None, is_some, refl, sym, subst, ap, ap₂, ◌∙◌, arith}
use Rattle.std.specs.List.{list_all}
use Rattle.std.specs.Option.{option_map_or}
use Rattle.std.proofs.lemmas.Bool.{and_parts, and_from}
use Rattle.std.proofs.lemmas.List.{length-map}
use Rattle.std.proofs.lemmas.List.Folds.{list_all-append}
use Rattle.lv_base.specs.declared.ids.ValId.{ValId}
use Rattle.lv_base.specs.declared.ids.VarId.{VarId}
use Rattle.lv_base.specs.declared.ids.MoveId.{MoveId}
use Rattle.lv_base.specs.Choices.{pairs_of, pairs_from}
use Rattle.lv_model.specs.declared.plant.Plant.{Plant}
use Rattle.lv_model.specs.declared.plant.ComponentType.{ComponentType}
use Rattle.lv_model.specs.declared.plant.Part.{Part}
use Rattle.lv_model.specs.declared.state.TrackedState.{TrackedState}
use Rattle.lv_model.specs.lv_base.Tree.{number_of}
use Rattle.lv_model.specs.Lists.{sizes, move_counts, controls, part_moves}
use Rattle.lv_model.specs.Meaning.{is_step, is_nominal, parts_are_nominal, part_is_nominal}
use Rattle.lv_meaning.specs.Facts.{agrees, meets, commanded, now_facts}
use Rattle.lv_meaning.specs.Possible.{value, move_number}
use Rattle.lv_meaning.specs.PossibleLaws.{are_below}
use Rattle.lv_meaning.specs.declared.aim.Aim.{Aim}
use Rattle.lv_meaning.specs.Commands.{control_sizes, is_command_set}
use Rattle.lv_meaning.specs.Recovers.{has_modes, has_control, has_controls, meets_goals}
use Rattle.lv_meaning.specs.RecoveryLaws.{NominalStep, LeadsToGoals}
use Rattle.lv_meaning.proofs.NominalSteps.{recovers_leads}
use Rattle.lv_plant_step.specs.declared.asked.Asked.{Asked}
use Rattle.lv_plant_step.specs.declared.asked.PlantStep.{PlantStep}
use Rattle.lv_plant_step.specs.PlantSteps.{are_as_named, plant_step}
use Rattle.lv_plant_step.specs.Finding.{are_values}
use Rattle.lv_plant_step.specs.Laws.{IsPlantStep, IsApplied, AppliedRecoveryReaches}
use Rattle.lv_plant_step.proofs.NamedLemmas.{StandsAt, stands_at}
use Rattle.lv_plant_step.proofs.SolutionLemmas.{is_assignment, is_full_choice, assignment_values, moves_back, mv_number, moves_below, below_long}
use Rattle.lv_plant_step.proofs.StepLemmas.{step_is, step_found}

-- values of controls, as pairs and as commands

get_there : {X : Type 0} (xs : List X) (k : ℕ) (d : X) → k < length xs → slice_get xs k ≡ Some (get_or xs k d)
get_there [] k d below = absurd (omega (arith, below))
get_there (x ∷ xs) zero d below = refl
get_there (x ∷ xs) (suc k) d below = get_there xs k d (omega (arith, below))

module _ (a : List ValId) (cs : List VarId) where
  pairs_met : (k : ℕ) (left : List VarId) (u : List ℕ) → drop k cs ≡ left → length u ≡ length left → list_all (has_control cs a) (pairs_from k u) ≡ meets a (commanded left (map value u))
  pairs_met k [] [] is long = refl
  pairs_met k [] (v ∷ u) is long = absurd (omega (arith, long))
  pairs_met k (c ∷ left) [] is long = absurd (omega (arith, long))
  pairs_met k (c ∷ left) (v ∷ u) is long =
      let at : StandsAt cs k c c left = stands_at cs k c c left is in
      ap₂ (λ (p q : Bool). p && q)
      (ap (λ (o : Option VarId). option_map_or (λ (x : VarId). nat_eq (number_of a x.0) v) o false) (get_there cs k c at.within ∙ ap Some at.is))
      (pairs_met (k + 1) left u at.behind (omega (arith, long)))

module _ (plant : Plant) (u : List ℕ) (set : is_command_set plant u ≡ true) where
  commands_long : length u ≡ length (controls plant)
  commands_long = below_long (control_sizes plant) u set ∙ length-map (controls plant) (λ (c : VarId). get_or (sizes plant) c.0 0)

  controls_met : (a : List ValId) → has_controls (controls plant) a (pairs_of u) ≡ meets a (commanded (controls plant) (map value u))
  controls_met a = pairs_met a (controls plant) 0 (controls plant) u refl commands_long

-- no fault is named

none_named : (types : List ComponentType) (ps : List Part) (ms : List MoveId) → length ms ≡ length ps → are_as_named types ps (replicate (length ps) None) ms ≡ parts_are_nominal types ps ms
none_named types [] [] long = refl
none_named types [] (m ∷ ms) long = absurd (omega (arith, long))
none_named types (p ∷ ps) [] long = absurd (omega (arith, long))
none_named types (p ∷ ps) (m ∷ ms) long = ap (λ b. part_is_nominal types p m.0 && b) (none_named types ps ms (omega (arith, long)))

abbrev vs_number : ValId → ℕ
vs_number v = v.0

values_back : (a : List ValId) → map value (map vs_number a) ≡ a
values_back [] = refl
values_back (v ∷ vs) = ap (λ (xs : List ValId). v ∷ xs) (values_back vs)

numbers_below : (ns : List ℕ) (a : List ValId) → are_values ns a ≡ true → are_below ns (map vs_number a) ≡ true
numbers_below [] [] h = refl
numbers_below [] (v ∷ vs) h = absurd (cc h)
numbers_below (n ∷ ns) [] h = absurd (cc h)
numbers_below (n ∷ ns) (v ∷ vs) h =
    let two = and_parts (nat_lt v.0 n) (are_values ns vs) h in
    and_from (nat_lt v.0 n) (are_below ns (map vs_number vs)) two.0 (numbers_below ns vs two.1)

values_of_numbers : (ns us : List ℕ) → are_below ns us ≡ true → are_values ns (map value us) ≡ true
values_of_numbers [] [] h = refl
values_of_numbers [] (u ∷ us) h = absurd (cc h)
values_of_numbers (n ∷ ns) [] h = absurd (cc h)
values_of_numbers (n ∷ ns) (u ∷ us) h =
    let two = and_parts (nat_lt u n) (are_below ns us) h in
    and_from (nat_lt u n) (are_values ns (map value us)) two.0 (values_of_numbers ns us two.1)

module _ (plant : Plant) (aim : Aim) (u : List ℕ) (s : TrackedState) (asked : Asked) (is : IsApplied plant aim u s asked) where
  counts_long : length (move_counts plant) ≡ length plant.parts
  counts_long = length-map plant.parts (part_moves plant.types)

  facts_met : (a : List ValId) → meets a (now_facts plant asked.facts) ≡ (has_controls (controls plant) a (pairs_of u) && meets a aim.present)
  facts_met a =
      list_all-append (agrees a) (commanded (controls plant) asked.facts.controls) asked.facts.present
      ∙ ap₂ (λ (p q : Bool). p && q)
      (ap (λ (vs : List ValId). meets a (commanded (controls plant) vs)) is.controls ∙ sym (controls_met plant u is.commands a))
      (ap (meets a) is.present)

  named_nominal : (ms : List MoveId) → length ms ≡ length plant.parts → are_as_named plant.types plant.parts asked.faults ms ≡ is_nominal plant ms
  named_nominal ms long = ap (λ (fs : List (Option MoveId)). are_as_named plant.types plant.parts fs ms) is.no_fault ∙ none_named plant.types plant.parts ms long

  leads : LeadsToGoals plant aim u s.state
  leads = recovers_leads plant aim u is.sure s is.tracked

  -- a nominal step is a plant step
  nominal_is_step : (w : NominalStep plant aim.present s.state (pairs_of u)) → IsPlantStep plant asked (record { before = map value w.before; after = map value w.after })
  nominal_is_step w =
      let long : length (map move_number w.moves) ≡ length plant.parts = length-map w.moves move_number ∙ below_long (move_counts plant) w.moves w.moves_below ∙ counts_long in
      record {
        moves = map move_number w.moves;
        step = record {
          before = is_assignment (sizes plant) (map value w.before) (values_of_numbers (sizes plant) w.before w.before_below);
          after = is_assignment (sizes plant) (map value w.after) (values_of_numbers (sizes plant) w.after w.after_below);
          moves = is_full_choice (move_counts plant) w.moves w.moves_below;
          step = w.step;
        };
        modes = ap (λ (vs : List ValId). has_modes plant.parts vs (map value w.before)) is.modes ∙ w.modes;
        facts =
            facts_met (map value w.before) ∙ and_from (has_controls (controls plant) (map value w.before) (pairs_of u)) (meets (map value w.before) aim.present) w.commanded w.observed;
        named = named_nominal (map move_number w.moves) long ∙ w.nominal;
      }

  pub applied_steps : is_some (plant_step plant asked) ≡ true
  applied_steps = step_found plant asked (record { before = map value leads.step.before; after = map value leads.step.after }) (nominal_is_step leads.step)

  -- a plant step is a nominal step
  step_is_nominal : (step : PlantStep) → IsPlantStep plant asked step → NominalStep plant aim.present s.state (pairs_of u)
  step_is_nominal step h =
      let a_is : step.before ≡ map value (map vs_number step.before) = sym (values_back step.before) in
      let seen = and_parts (has_controls (controls plant) step.before (pairs_of u)) (meets step.before aim.present) (sym (facts_met step.before) ∙ h.facts) in
      record {
        before = map vs_number step.before;
        after = map vs_number step.after;
        moves = map mv_number h.moves;
        before_below = numbers_below (sizes plant) step.before (assignment_values (sizes plant) step.before h.step.before);
        after_below = numbers_below (sizes plant) step.after (assignment_values (sizes plant) step.after h.step.after);
        moves_below = moves_below (move_counts plant) h.moves h.step.moves.whole h.step.moves.in_range;
        modes =
            subst (λ (x : List ValId). has_modes plant.parts s.state.modes x ≡ true) a_is
            (sym (ap (λ (vs : List ValId). has_modes plant.parts vs step.before) is.modes) ∙ h.modes);
        commanded = subst (λ (x : List ValId). has_controls (controls plant) x (pairs_of u) ≡ true) a_is seen.0;
        observed = subst (λ (x : List ValId). meets x aim.present ≡ true) a_is seen.1;
        step = (λ i. is_step plant (values_back step.before i) (values_back step.after i) (moves_back h.moves i)) ∙ h.step.step;
        nominal =
            ap (is_nominal plant) (moves_back h.moves) ∙ sym (named_nominal h.moves (h.step.moves.whole ∙ counts_long)) ∙ h.named;
      }

  pub applied_reaches : (step : PlantStep) → plant_step plant asked ≡ Some step → meets_goals aim.goals step.after ≡ true
  unfolding step_is_nominal
  applied_reaches step h = sym (ap (meets_goals aim.goals) (values_back step.after)) ∙ leads.goals (step_is_nominal step (step_is plant asked step h))

pub recovery_reaches : AppliedRecoveryReaches
recovery_reaches =
    record {
      steps = λ plant aim u s asked is. applied_steps plant aim u s asked is;
      reaches = λ plant aim u s asked step is h. applied_reaches plant aim u s asked is step h;
    }
