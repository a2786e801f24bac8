-- Nominal steps are found exactly where there are some, and what they say of command sets.
use Rattle.std.proofs.Common.{◌≡◌, ℕ, Bool, true, false, ◌&&◌, not, List, [], ◌∷◌, ◌++◌, map, Contains, inl, inr, refl, sym, ◌∙◌}
use Rattle.std.proofs.lemmas.Bool.{and_parts, and_from}
use Rattle.std.specs.List.{list_all}
use Rattle.lv_base.specs.declared.ids.ValId.{ValId}
use Rattle.lv_base.specs.declared.search.Pair.{Pair}
use Rattle.lv_base.specs.Choices.{pairs_of}
use Rattle.lv_model.specs.declared.plant.Plant.{Plant}
use Rattle.lv_model.specs.declared.state.State.{State}
use Rattle.lv_model.specs.declared.state.TrackedState.{TrackedState}
use Rattle.lv_model.specs.Lists.{sizes, move_counts, controls}
use Rattle.lv_model.specs.Meaning.{is_step, is_nominal}
use Rattle.lv_meaning.specs.declared.facts.Observation.{Observation}
use Rattle.lv_meaning.specs.Facts.{meets}
use Rattle.lv_meaning.specs.Search.{some_list}
use Rattle.lv_meaning.specs.Possible.{value, move_number}
use Rattle.lv_meaning.proofs.Among.{Among, among, contained, all_among}
use Rattle.lv_meaning.proofs.Possibility.{all_of_part, still_there}
use Rattle.lv_meaning.proofs.SomeList.{list_found, found_list}
use Rattle.lv_meaning.specs.declared.aim.Aim.{Aim}
use Rattle.lv_meaning.specs.Recovers.{has_modes, has_control, has_controls, is_nominal_step, some_nominal_step, meets_goals, reaches, can_miss, is_sure, is_sure_from, recovers}
use Rattle.lv_meaning.specs.RecoveryLaws.{NominalStep, LeadsToGoals}

module _ (plant : Plant) (present : List Observation) (s : State) (pairs : List Pair) (ends : List ValId → Bool) where
  -- a nominal step that ends so
  pub record StepFound : Type 0 where
    pub step : NominalStep plant present s pairs
    pub ends_so : ends (map value step.after) ≡ true

  abbrev by_moves : List ValId → List ValId → Bool
  by_moves a b = some_list move_number (move_counts plant) (λ moves. is_nominal_step plant present s pairs a b moves && ends b)

  pub step_found : some_nominal_step plant present s pairs ends ≡ true → StepFound
  step_found h =
      let a = list_found value (sizes plant) (λ a. some_list value (sizes plant) (λ b. by_moves a b)) h in
      let b = list_found value (sizes plant) (λ b. by_moves (map value a.numbers) b) a.passes in
      let m = list_found move_number (move_counts plant) (λ moves. is_nominal_step plant present s pairs (map value a.numbers) (map value b.numbers) moves && ends (map value b.numbers)) b.passes in
      let is = and_parts (is_nominal_step plant present s pairs (map value a.numbers) (map value b.numbers) (map move_number m.numbers)) (ends (map value b.numbers)) m.passes in
      let begins : Bool = has_modes plant.parts s.modes (map value a.numbers) && (has_controls (controls plant) (map value a.numbers) pairs && meets (map value a.numbers) present) in
      let goes : Bool = is_step plant (map value a.numbers) (map value b.numbers) (map move_number m.numbers) && is_nominal plant (map move_number m.numbers) in
      let halves = and_parts begins goes is.0 in
      let from = and_parts (has_modes plant.parts s.modes (map value a.numbers)) (has_controls (controls plant) (map value a.numbers) pairs && meets (map value a.numbers) present) halves.0 in
      let seen = and_parts (has_controls (controls plant) (map value a.numbers) pairs) (meets (map value a.numbers) present) from.1 in
      let way = and_parts (is_step plant (map value a.numbers) (map value b.numbers) (map move_number m.numbers)) (is_nominal plant (map move_number m.numbers)) halves.1 in
      record {
        step = record {
          before = a.numbers;
          after = b.numbers;
          moves = m.numbers;
          before_below = a.below;
          after_below = b.below;
          moves_below = m.below;
          modes = from.0;
          commanded = seen.0;
          observed = seen.1;
          step = way.0;
          nominal = way.1;
        };
        ends_so = is.1;
      }

  pub found_step : (w : NominalStep plant present s pairs) → ends (map value w.after) ≡ true → some_nominal_step plant present s pairs ends ≡ true
  found_step w so =
      let begins : Bool = has_modes plant.parts s.modes (map value w.before) && (has_controls (controls plant) (map value w.before) pairs && meets (map value w.before) present) in
      let goes : Bool = is_step plant (map value w.before) (map value w.after) (map move_number w.moves) && is_nominal plant (map move_number w.moves) in
      found_list value (sizes plant) (λ a. some_list value (sizes plant) (λ b. by_moves a b)) w.before w.before_below
      (found_list value (sizes plant) (λ b. by_moves (map value w.before) b) w.after w.after_below
      (found_list move_number (move_counts plant) (λ moves. is_nominal_step plant present s pairs (map value w.before) (map value w.after) moves && ends (map value w.after)) w.moves w.moves_below
      (and_from (begins && goes) (ends (map value w.after))
      (and_from begins goes
      (and_from (has_modes plant.parts s.modes (map value w.before)) (has_controls (controls plant) (map value w.before) pairs && meets (map value w.before) present) w.modes
      (and_from (has_controls (controls plant) (map value w.before) pairs) (meets (map value w.before) present) w.commanded w.observed))
      (and_from (is_step plant (map value w.before) (map value w.after) (map move_number w.moves)) (is_nominal plant (map move_number w.moves)) w.step w.nominal))
      so)))

-- where the former values of controls imply the latter, a step with the former is one with the latter
pub step_less : (plant : Plant) (present : List Observation) (s : State) (stronger weaker : List Pair)
    → ((a : List ValId) → has_controls (controls plant) a stronger ≡ true → has_controls (controls plant) a weaker ≡ true) → NominalStep plant present s stronger
    → NominalStep plant present s weaker
step_less plant present s stronger weaker implies w =
    record {
      before = w.before;
      after = w.after;
      moves = w.moves;
      before_below = w.before_below;
      after_below = w.after_below;
      moves_below = w.moves_below;
      modes = w.modes;
      commanded = implies (map value w.before) w.commanded;
      observed = w.observed;
      step = w.step;
      nominal = w.nominal;
    }

pub some_step_less : (plant : Plant) (present : List Observation) (s : State) (stronger weaker : List Pair) (ends : List ValId → Bool)
    → ((a : List ValId) → has_controls (controls plant) a stronger ≡ true → has_controls (controls plant) a weaker ≡ true) → some_nominal_step plant present s stronger ends ≡ true
    → some_nominal_step plant present s weaker ends ≡ true
unfolding step_less
some_step_less plant present s stronger weaker ends implies h =
    let f : StepFound plant present s stronger ends = step_found plant present s stronger ends h in
    found_step plant present s weaker ends (step_less plant present s stronger weaker implies f.step) f.ends_so

pub part_reaches : (plant : Plant) (aim : Aim) (s : State) (part whole : List Pair) → ((p : Pair) → Contains part p → Contains whole p) → reaches plant aim s whole ≡ true
    → reaches plant aim s part ≡ true
part_reaches plant aim s part whole inside =
    some_step_less plant aim.present s whole part (meets_goals aim.goals) (λ a. all_of_part (has_control (controls plant) a) part whole inside)

pub reaches_without : (plant : Plant) (aim : Aim) (s : State) (before after : List Pair) (left_out : Pair) → reaches plant aim s (before ++ left_out ∷ after) ≡ true
    → reaches plant aim s (before ++ after) ≡ true
reaches_without plant aim s before after left_out = part_reaches plant aim s (before ++ after) (before ++ left_out ∷ after) (still_there before after left_out)

-- what isn't false is true
not_missed : (b : Bool) → (not b ≡ true → ⊥) → b ≡ true
not_missed true no_miss = refl
not_missed false no_miss = absurd (no_miss refl)

pub denied : (b : Bool) → not b ≡ true → b ≡ false
denied true h = absurd (cc h)
denied false h = refl

denial : (b : Bool) → (b ≡ true → ⊥) → not b ≡ true
denial true never = absurd (never refl)
denial false never = refl

module _ (plant : Plant) (aim : Aim) (u : List ℕ) (s : State) where
  pub sure_leads : is_sure plant aim u s ≡ true → LeadsToGoals plant aim u s
  sure_leads h =
      let halves = and_parts (reaches plant aim s (pairs_of u)) (not (can_miss plant aim s (pairs_of u))) h in
      let f : StepFound plant aim.present s (pairs_of u) (meets_goals aim.goals) = step_found plant aim.present s (pairs_of u) (meets_goals aim.goals) halves.0 in
      record {
        step = f.step;
        goals =
            λ each.
            not_missed (meets_goals aim.goals (map value each.after))
            (λ miss.
            let can : can_miss plant aim s (pairs_of u) ≡ true = found_step plant aim.present s (pairs_of u) (λ b. not (meets_goals aim.goals b)) each miss in
            let clash : true ≡ false = sym can ∙ denied (can_miss plant aim s (pairs_of u)) halves.1 in
            cc clash);
      }

  pub leads_sure : LeadsToGoals plant aim u s → is_sure plant aim u s ≡ true
  leads_sure l =
      and_from (reaches plant aim s (pairs_of u)) (not (can_miss plant aim s (pairs_of u))) (found_step plant aim.present s (pairs_of u) (meets_goals aim.goals) l.step (l.goals l.step))
      (denial (can_miss plant aim s (pairs_of u))
      (λ can.
      let f : StepFound plant aim.present s (pairs_of u) (λ b. not (meets_goals aim.goals b)) = step_found plant aim.present s (pairs_of u) (λ b. not (meets_goals aim.goals b)) can in
      let clash : true ≡ false = sym (l.goals f.step) ∙ denied (meets_goals aim.goals (map value f.step.after)) f.ends_so in
      cc clash))

-- what holds of each item holds of all
pub each_passes : {X : Type 0} (f : X → Bool) (xs : List X) → ((x : X) → Among x xs → f x ≡ true) → list_all f xs ≡ true
each_passes f [] h = refl
each_passes f (x ∷ xs) h = and_from (f x) (list_all f xs) (h x (inl refl)) (each_passes f xs (λ y a. h y (inr a)))

pub recovers_leads : (plant : Plant) (aim : Aim) (u : List ℕ) → recovers plant aim u ≡ true → (s : TrackedState) → Contains aim.tracked s → LeadsToGoals plant aim u s.state
recovers_leads plant aim u h s there = sure_leads plant aim u s.state (all_among (is_sure_from plant aim u) aim.tracked s h (among aim.tracked s there))

pub leads_recover : (plant : Plant) (aim : Aim) (u : List ℕ) → ((s : TrackedState) → Contains aim.tracked s → LeadsToGoals plant aim u s.state) → recovers plant aim u ≡ true
leads_recover plant aim u leads = each_passes (is_sure_from plant aim u) aim.tracked (λ s a. leads_sure plant aim u s.state (leads s (contained aim.tracked s a)))
