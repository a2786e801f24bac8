-- Truth values that make a block's clauses true encode a nominal step, and the lines of such a step show it.
use Rattle.std.proofs.Common.{◌≡◌, ◌≢◌, ℕ, zero, suc, ◌+◌, ◌<◌, ◌≤◌, Bool, true, false, ◌&&◌, ◌||◌, nat_lt, List, [], ◌∷◌, ◌++◌, map, slice_get, Some, All, ◌⊎◌, inl, inr, refl, sym, subst, ◌∙◌, ap, arith}
use Rattle.std.specs.List.{list_all, list_any, flat_map, range_with_len}
use Rattle.std.proofs.lemmas.Bool.{and_parts, and_from, cases_eq, ltb-true}
use Rattle.std.proofs.lemmas.List.Folds.{list_all-append}
use Rattle.lv_base.specs.declared.ids.Lit.{Lit}
use Rattle.lv_base.specs.declared.ids.MoveId.{MoveId}
use Rattle.lv_base.specs.declared.ids.ValId.{ValId}
use Rattle.lv_base.specs.declared.search.Pair.{Pair}
use Rattle.lv_base.specs.Choices.{pairs_of}
use Rattle.lv_system.specs.lv_clauses.Literals.{same_truth, lit_holds, clause_holds}
use Rattle.lv_base.specs.Tree.{Tree, truth_of}
use Rattle.lv_base.specs.Fits.{fits}
use Rattle.lv_model.specs.declared.plant.Plant.{Plant}
use Rattle.lv_model.specs.declared.plant.ComponentType.{ComponentType}
use Rattle.lv_model.specs.declared.plant.Part.{Part}
use Rattle.lv_model.specs.declared.state.State.{State}
use Rattle.lv_model.specs.declared.state.TrackedState.{TrackedState}
use Rattle.lv_model.specs.Lists.{sizes, part_moves, move_counts, controls}
use Rattle.lv_model.specs.Meaning.{is_feasible, part_steps, part_is_nominal, parts_step, parts_are_nominal, is_step, is_nominal}
use Rattle.lv_model.specs.Ranges.{plant_ranges}
use Rattle.lv_model.specs.WellFormed.{is_well_formed}
use Rattle.lv_meaning.specs.Facts.{meets}
use Rattle.lv_meaning.specs.Possible.{value, move_number}
use Rattle.lv_meaning.specs.PossibleLaws.{are_below}
use Rattle.lv_meaning.specs.declared.aim.Aim.{Aim}
use Rattle.lv_meaning.specs.Commands.{control_sizes}
use Rattle.lv_meaning.specs.Ranges.{modes_fit, ObservationFits}
use Rattle.lv_meaning.specs.Recovers.{has_modes, has_controls, meets_goals}
use Rattle.lv_meaning.specs.RecoveryLaws.{NominalStep}
use Rattle.lv_search_zones.specs.lv_compile.Booleans.{booleans_next}
use Rattle.lv_search_zones.specs.lv_compile.FormulaClauses.{Clauses, formula_clauses}
use Rattle.lv_search_zones.specs.lv_compile.Laws.{Encode}
use Rattle.lv_search_zones.proofs.lv_compile.CleaningLemmas.{cleaned_true}
use Rattle.lv_search_zones.proofs.lv_compile.FormulaLemmas.{exact}
use Rattle.lv_search_zones.proofs.lv_compile.RangeLemmas.{have_system}
use Rattle.lv_system.specs.Decoding.{IsDecoded}
use Rattle.lv_system.specs.Encoding.{truth_in}
use Rattle.lv_system.specs.Laws.{IsWholeStep, IsModelOf}
use Rattle.lv_system.specs.System.{SystemValue, IsSystemOf}
use Rattle.lv_system.proofs.RangeLemmas.{below_from_assignment, below_from_full_choice, values_back, moves_back}
use Rattle.lv_cert_laws.specs.lv_cert_meaning.Counting.{are_of}
use Rattle.lv_cert_laws.specs.lv_cert_meaning.Units.{mode_literals, no_fault_literals, control_literal, nominal_units, goal_clauses}
use Rattle.lv_cert_laws.specs.lv_cert_meaning.Judging.{Judged, steps_nominally, is_nominal_pair, is_aimed_step}
use Rattle.lv_cert_laws.proofs.Blocks.{units_hold}
use Rattle.lv_cert_writing.specs.Lines.{numbers_of, value_numbers}
use Rattle.lv_cert_writing.specs.Pairs.{HasChoice}
use Rattle.lv_cert_recovery.specs.Showing.{stated_by, own_clauses, IsStepFrom}
use Rattle.lv_cert_recovery.proofs.ShowingLemmas.{numbers_are, IsShownTo}
use Rattle.lv_cert_recovery.proofs.MeaningLemmas.{nominal_means, modes_mean, observed_mean, controls_mean}

-- a goal's clauses say its truth behind the step
pub goal_means : (plant : Plant) (values : List Bool) (b : List ValId) → Encode (truth_in values) (booleans_next plant) b → (goal : Tree) → fits (plant_ranges plant) goal ≡ true → (sign : Bool)
    → list_all (clause_holds values) (goal_clauses plant sign goal) ≡ same_truth (truth_of b 0 goal) sign
goal_means plant values b code goal fit sign =
    cleaned_true (truth_in values) (formula_clauses (booleans_next plant) 0 sign goal)
    ∙ exact (plant_ranges plant) (booleans_next plant) 0 (have_system plant (booleans_next plant) refl) (truth_in values) b code goal fit sign

as_is : (b : Bool) → same_truth b true ≡ true → b ≡ true
as_is true h = refl
as_is false h = absurd (cc h)

pub as_not : (b : Bool) → same_truth b false ≡ true → b ≡ false
as_not true h = absurd (cc h)
as_not false h = refl

pub goals_mean : (plant : Plant) (values : List Bool) (b : List ValId) → Encode (truth_in values) (booleans_next plant) b → (goals : List Tree) → list_all (fits (plant_ranges plant)) goals ≡ true
    → list_all (clause_holds values) (flat_map (goal_clauses plant true) goals) ≡ true → meets_goals goals b ≡ true
goals_mean plant values b code [] fit h = refl
goals_mean plant values b code (g ∷ gs) fit h =
    let each = and_parts (fits (plant_ranges plant) g) (list_all (fits (plant_ranges plant)) gs) fit in
    let two =
    and_parts (list_all (clause_holds values) (goal_clauses plant true g)) (list_all (clause_holds values) (flat_map (goal_clauses plant true) gs))
    (sym (list_all-append (clause_holds values) (goal_clauses plant true g) (flat_map (goal_clauses plant true) gs)) ∙ h) in
    and_from (truth_of b 0 g) (meets_goals gs b) (as_is (truth_of b 0 g) (sym (goal_means plant values b code g each.0 true) ∙ two.0)) (goals_mean plant values b code gs each.1 two.1)

module _ (plant : Plant) (h : is_well_formed plant ≡ true) (aim : Aim) (system : SystemValue) (of : IsSystemOf plant system) (s : State) (fit : modes_fit (plant_ranges plant) plant.parts s.modes ≡ true)
    (seen : All (ObservationFits plant) aim.present) (pairs : List Pair) (have : All (HasChoice (control_sizes plant)) pairs) (values : List Bool) (a b : List ValId) (ms : List MoveId)
    (decoded : IsDecoded system values a b ms) (more : Clauses) (hold : list_all (clause_holds values) (own_clauses plant aim s pairs more) ≡ true) where
  whole : IsWholeStep plant a b ms
  whole = decoded.step plant h of

  pub model_of : IsModelOf plant system a b ms values
  model_of = decoded.encoded plant h of

  abbrev first : List Lit
  first = mode_literals plant plant.parts s.modes ++ no_fault_literals plant 0 plant.parts

  abbrev then : List Lit
  then = (stated_by plant aim).literals ++ map (control_literal plant) pairs

  halves : (list_all (clause_holds values) (nominal_units plant s.modes (stated_by plant aim).literals pairs) ≡ true) × (list_all (clause_holds values) more ≡ true)
  halves =
      and_parts (list_all (clause_holds values) (nominal_units plant s.modes (stated_by plant aim).literals pairs)) (list_all (clause_holds values) more)
      (sym (list_all-append (clause_holds values) (nominal_units plant s.modes (stated_by plant aim).literals pairs) more) ∙ hold)

  pub more_hold : list_all (clause_holds values) more ≡ true
  more_hold = halves.1

  parts : (list_all (lit_holds values) first ≡ true) × (list_all (lit_holds values) then ≡ true)
  parts = and_parts (list_all (lit_holds values) first) (list_all (lit_holds values) then) (sym (list_all-append (lit_holds values) first then) ∙ sym (units_hold values (first ++ then)) ∙ halves.0)

  begins : (list_all (lit_holds values) (mode_literals plant plant.parts s.modes) ≡ true) × (list_all (lit_holds values) (no_fault_literals plant 0 plant.parts) ≡ true)
  begins =
      and_parts (list_all (lit_holds values) (mode_literals plant plant.parts s.modes)) (list_all (lit_holds values) (no_fault_literals plant 0 plant.parts))
      (sym (list_all-append (lit_holds values) (mode_literals plant plant.parts s.modes) (no_fault_literals plant 0 plant.parts)) ∙ parts.0)

  stated : (list_all (lit_holds values) (stated_by plant aim).literals ≡ true) × (list_all (lit_holds values) (map (control_literal plant) pairs) ≡ true)
  stated =
      and_parts (list_all (lit_holds values) (stated_by plant aim).literals) (list_all (lit_holds values) (map (control_literal plant) pairs))
      (sym (list_all-append (lit_holds values) (stated_by plant aim).literals (map (control_literal plant) pairs)) ∙ parts.1)

  pub decoded_step : IsStepFrom plant aim s pairs a b
  decoded_step =
      record {
        step = record {
          before = map (λ (v : ValId). v.0) a;
          after = map (λ (v : ValId). v.0) b;
          moves = map (λ (m : MoveId). m.0) ms;
          before_below = below_from_assignment (sizes plant) a whole.before;
          after_below = below_from_assignment (sizes plant) b whole.after;
          moves_below = below_from_full_choice (move_counts plant) ms whole.moves;
          modes = ap (has_modes plant.parts s.modes) (values_back a) ∙ modes_mean plant (truth_in values) a model_of.now plant.parts s.modes fit begins.0;
          commanded = ap (λ vs. has_controls (controls plant) vs pairs) (values_back a) ∙ controls_mean plant (truth_in values) a model_of.now pairs have stated.1;
          observed = ap (λ vs. meets vs aim.present) (values_back a) ∙ observed_mean plant (truth_in values) a model_of.now aim.present seen stated.0;
          step = (λ i. is_step plant (values_back a i) (values_back b i) (moves_back ms i)) ∙ whole.step;
          nominal = ap (is_nominal plant) (moves_back ms) ∙ nominal_means plant (truth_in values) ms model_of.choice begins.1;
        };
        begins = values_back a;
        ends = values_back b;
      }

-- a number of a range that passes
any_at : (f : ℕ → Bool) (start count n : ℕ) → start ≤ n → n < start + count → f n ≡ true → list_any f (range_with_len start count) ≡ true
any_at f start zero n low high passes = absurd (omega (arith, low, high))
any_at f start (suc count) n low high passes = by (cases_eq n start) (λ less. any_at f (start + 1) count n less (omega (arith, high)) passes)
  where
    here : (b c : Bool) → b ≡ true → (b || c) ≡ true
    here true c e = refl
    here false c e = absurd (cc e)

    there : (b c : Bool) → c ≡ true → (b || c) ≡ true
    there true c e = refl
    there false c e = e

    by : (n ≡ start) ⊎ (n ≢ start) → (start + 1 ≤ n → list_any f (range_with_len (start + 1) count) ≡ true) → (f start || list_any f (range_with_len (start + 1) count)) ≡ true
    by (inl same) rest = here (f start) (list_any f (range_with_len (start + 1) count)) (ap f (sym same) ∙ passes)
    by (inr other) rest = there (f start) (list_any f (range_with_len (start + 1) count)) (rest (omega (arith, low, other)))

-- parts that step by nominal moves step nominally
nominal_parts : (types : List ComponentType) (a b : List ValId) (ps : List Part) (ms : List ℕ) → are_below (map (part_moves types) ps) ms ≡ true → parts_step types a b ps (map move_number ms) ≡ true
    → parts_are_nominal types ps (map move_number ms) ≡ true → list_all (steps_nominally types a b) ps ≡ true
nominal_parts types a b [] ms below steps nominal = refl
nominal_parts types a b (p ∷ ps) [] below steps nominal = absurd (cc steps)
nominal_parts types a b (p ∷ ps) (m ∷ ms) below steps nominal =
    let fewer = and_parts (nat_lt m (part_moves types p)) (are_below (map (part_moves types) ps) ms) below in
    let step = and_parts (part_steps types a b p m) (parts_step types a b ps (map move_number ms)) steps in
    let none = and_parts (part_is_nominal types p m) (parts_are_nominal types ps (map move_number ms)) nominal in
    let less : m < part_moves types p = ltb-true m (part_moves types p) fewer.0 in
    and_from (steps_nominally types a b p) (list_all (steps_nominally types a b) ps)
    (any_at (λ n. part_steps types a b p n && part_is_nominal types p n) 0 (part_moves types p) m (omega arith) (omega (arith, less))
    (and_from (part_steps types a b p m) (part_is_nominal types p m) step.0 none.0))
    (nominal_parts types a b ps ms fewer.1 step.1 none.1)

-- values by their numbers
numbers_back : (ns : List ℕ) → value_numbers (map value ns) ≡ numbers_of ns
numbers_back [] = refl
numbers_back (n ∷ ns) = ap (λ (ms : List ℕ). (n + 1) ∷ ms) (numbers_back ns)

module _ (plant : Plant) (aim : Aim) where
  nominal_pair : (s : State) (pairs : List Pair) (w : NominalStep plant aim.present s pairs) → is_nominal_pair plant (map value w.before) (map value w.after) ≡ true
  nominal_pair s pairs w =
      let a : List ValId = map value w.before in
      let b : List ValId = map value w.after in
      let two = and_parts (is_feasible plant a) (is_feasible plant b && parts_step plant.types a b plant.parts (map move_number w.moves)) w.step in
      let rest = and_parts (is_feasible plant b) (parts_step plant.types a b plant.parts (map move_number w.moves)) two.1 in
      and_from (is_feasible plant a) (is_feasible plant b && list_all (steps_nominally plant.types a b) plant.parts) two.0
      (and_from (is_feasible plant b) (list_all (steps_nominally plant.types a b) plant.parts) rest.0 (nominal_parts plant.types a b plant.parts w.moves w.moves_below rest.1 w.nominal))

  -- the lines of such a step show it
  pub step_shown : (n : ℕ) (s : TrackedState) → slice_get aim.tracked n ≡ Some s → (values : List ℕ) (a b : List ValId) → IsStepFrom plant aim s.state (pairs_of values) a b → (reaches : Bool)
      → meets_goals aim.goals b ≡ reaches → IsShownTo plant aim n values reaches a b
  step_shown n s at values a b is reaches ends =
      record {
        state = s;
        at = at;
        before = subst (λ (vs : List ValId). are_of (sizes plant) (value_numbers vs) ≡ true) is.begins (ap (are_of (sizes plant)) (numbers_back is.step.before) ∙ numbers_are (sizes plant) is.step.before is.step.before_below);
        after = subst (λ (vs : List ValId). are_of (sizes plant) (value_numbers vs) ≡ true) is.ends (ap (are_of (sizes plant)) (numbers_back is.step.after) ∙ numbers_are (sizes plant) is.step.after is.step.after_below);
        steps = steps;
        ends = ends;
      }
    where
      steps : (j : Judged) → j.stated ≡ stated_by plant aim → is_aimed_step plant j values a b s ≡ true
      steps j stated_is =
          let x : List ValId = map value is.step.before in
          let y : List ValId = map value is.step.after in
          (λ i. is_aimed_step plant (record j { stated = stated_is i }) values (sym is.begins i) (sym is.ends i) s)
          ∙ and_from (has_modes plant.parts s.state.modes x && (has_controls (controls plant) x (pairs_of values) && meets x aim.present)) (is_nominal_pair plant x y)
          (and_from (has_modes plant.parts s.state.modes x) (has_controls (controls plant) x (pairs_of values) && meets x aim.present) is.step.modes
          (and_from (has_controls (controls plant) x (pairs_of values)) (meets x aim.present) is.step.commanded is.step.observed))
          (nominal_pair s.state (pairs_of values) is.step)
