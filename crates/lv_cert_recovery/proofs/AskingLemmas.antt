-- What is put to a refuter are clauses over the booleans of the system.
use Rattle.std.proofs.Common.{◌≡◌, ℕ, suc, ◌^◌, ◌≤◌, Bool, true, false, List, [], ◌∷◌, ◌++◌, length, map, All, IsTrue, refl, sym, subst, ◌∙◌, ap, arith}
use Rattle.std.specs.List.{list_all, flat_map}
use Rattle.std.proofs.lemmas.Bool.{and_parts, and_from}
use Rattle.std.proofs.lemmas.List.{append_assoc, length-append}
use Rattle.std.proofs.lemmas.List.Elements.{All-nil, All-cons, All-head, All-tail, All-append}
use Rattle.lv_base.specs.declared.ids.Lit.{Lit}
use Rattle.lv_base.specs.declared.ids.ValId.{ValId}
use Rattle.lv_base.specs.declared.ids.VarId.{VarId}
use Rattle.lv_base.specs.declared.search.Pair.{Pair}
use Rattle.lv_system.specs.lv_clauses.Literals.{is_clause, clause_holds}
use Rattle.lv_base.specs.declared.range.Range.{Range}
use Rattle.lv_base.specs.Tree.{Tree, truth_of}
use Rattle.lv_base.specs.Fits.{fits, has_value}
use Rattle.lv_model.specs.declared.plant.Plant.{Plant}
use Rattle.lv_model.specs.declared.plant.Part.{Part}
use Rattle.lv_model.specs.declared.state.State.{State}
use Rattle.lv_model.specs.Ranges.{plant_ranges}
use Rattle.lv_meaning.specs.declared.aim.Aim.{Aim}
use Rattle.lv_meaning.specs.Commands.{control_sizes}
use Rattle.lv_meaning.specs.Ranges.{AimFits, GoalFits, modes_fit}
use Rattle.lv_search_zones.specs.lv_compile.Booleans.{Booleans, bool_count}
use Rattle.lv_search_zones.specs.lv_compile.FormulaClauses.{Clauses, formula_clauses}
use Rattle.lv_search_zones.specs.lv_compile.Cleaning.{cleaned}
use Rattle.lv_system.specs.Goals.{goal_speaks}
use Rattle.lv_system.specs.Goals as goals
use Rattle.lv_system.specs.Numbering.{IsOver}
use Rattle.lv_system.specs.System.{SystemValue, IsSystemOf}
use Rattle.lv_system.proofs.GoalLemmas.{goals_exact}
use Rattle.lv_cert_laws.specs.lv_cert_meaning.Units.{mode_literals, no_fault_literals, control_literal, nominal_units, goal_clauses}
use Rattle.lv_cert_writing.specs.Pairs.{HasChoice}
use Rattle.lv_cert_recovery.specs.Showing.{stated_by, own_clauses, reached_clauses, AreRefuted, IsStepFrom}
use Rattle.lv_model.specs.WellFormed.{is_well_formed}
use Rattle.lv_search_zones.specs.lv_compile.ModelClauses.{model_clauses}
use Rattle.lv_search_zones.proofs.lv_compile.PlantBoundLemmas.{few_clauses, count_within}
use Rattle.lv_system.specs.Laws.{IsModelOf}
use Rattle.lv_system.specs.declared.step_pair.StepPair.{StepPair}
use Rattle.lv_cert_laws.specs.lv_cert_meaning.Blocks.{clauses_of}
use Rattle.lv_cert_laws.specs.lv_cert_meaning.Deriving.{Derived, refutes}
use Rattle.lv_cert_laws.proofs.lv_cert_meaning.ClauseNumberLemmas.{clauses_are}
use Rattle.lv_cert_writing.specs.BlockLines.{derived_of}
use Rattle.lv_cert_recovery.specs.declared.asking.Told.{Told}
use Rattle.lv_cert_recovery.specs.declared.asking.Told.TheVariants.{Step, Lines}
use Rattle.lv_cert_recovery.specs.Asking.{Asked, IsAsking}
use Rattle.lv_cert_recovery.specs.Telling.{IsDecodedFrom, IsToldOf, TellsReached, TellsMissed}
use Rattle.lv_cert_recovery.proofs.MeaningLemmas.{nominal_in, units_over}
use Rattle.lv_cert_recovery.proofs.StepLemmas.{goal_means, goals_mean, as_not, decoded_step, more_hold, model_of}

pub modes_long : (rs : List Range) (ps : List Part) (vs : List ValId) → modes_fit rs ps vs ≡ true → length vs ≡ length ps
modes_long rs [] [] h = refl
modes_long rs [] (v ∷ vs) h = absurd (cc h)
modes_long rs (p ∷ ps) [] h = absurd (cc h)
modes_long rs (p ∷ ps) (v ∷ vs) h = ap suc (modes_long rs ps vs ((and_parts (has_value rs p.first.0 v.0) (modes_fit rs ps vs) h).1))

over_from : (bools : ℕ) (cs : Clauses) → list_all (is_clause bools) cs ≡ true → All (IsOver bools) cs
over_from bools [] h = All-nil (IsOver bools)
over_from bools (c ∷ cs) h =
    let two = and_parts (is_clause bools c) (list_all (is_clause bools) cs) h in
    All-cons (IsOver bools) c cs (record { clause = two.0 }) (over_from bools cs two.1)

module _ (plant : Plant) (system : SystemValue) (of : IsSystemOf plant system) where
  pub goal_made : (goal : Tree) (sign : Bool) → goals.goal_clauses system sign goal ≡ goal_clauses plant sign goal
  goal_made goal sign = ap (λ (b : Booleans). cleaned (formula_clauses b 0 sign goal)) of.after

  pub goal_spoken : (goal given : Tree) → GoalFits plant goal → given ≡ goal → IsTrue (goal_speaks system given)
  goal_spoken goal given fit same = ap (goal_speaks system) same ∙ goals_exact.speaks plant system of goal fit.equations

  pub goal_over : (goal : Tree) (sign : Bool) → GoalFits plant goal → All (IsOver (bool_count plant)) (goal_clauses plant sign goal)
  goal_over goal sign fit =
      over_from (bool_count plant) (goal_clauses plant sign goal)
      (ap (list_all (is_clause (bool_count plant))) (sym (goal_made goal sign)) ∙ goals_exact.clauses plant system of goal fit.equations sign)

  pub goals_over : (gs : List Tree) → All (GoalFits plant) gs → All (IsOver (bool_count plant)) (flat_map (goal_clauses plant true) gs)
  goals_over [] fit = All-nil (IsOver (bool_count plant))
  goals_over (g ∷ gs) fit =
      All-append (IsOver (bool_count plant)) (goal_clauses plant true g) (flat_map (goal_clauses plant true) gs) (goal_over g true (All-head (GoalFits plant) g gs fit))
      (goals_over gs (All-tail (GoalFits plant) g gs fit))

  module _ (aim : Aim) (fits : AimFits plant aim) (s : State) (fit : modes_fit (plant_ranges plant) plant.parts s.modes ≡ true) (pairs : List Pair) (have : All (HasChoice (control_sizes plant)) pairs) where
    nominal_over : All (IsOver (bool_count plant)) (nominal_units plant s.modes (stated_by plant aim).literals pairs)
    nominal_over =
        over_from (bool_count plant) (nominal_units plant s.modes (stated_by plant aim).literals pairs)
        (units_over (bool_count plant) ((mode_literals plant plant.parts s.modes ++ no_fault_literals plant 0 plant.parts) ++ ((stated_by plant aim).literals ++ map (control_literal plant) pairs))
        (nominal_in plant s.modes aim.present pairs fit fits.present have))

    pub own_over : (more : Clauses) → All (IsOver (bool_count plant)) more → All (IsOver system.set.bools) (own_clauses plant aim s pairs more)
    own_over more over =
        subst (λ bools. All (IsOver bools) (own_clauses plant aim s pairs more)) (sym of.bools)
        (All-append (IsOver (bool_count plant)) (nominal_units plant s.modes (stated_by plant aim).literals pairs) more nominal_over over)

-- literals added one behind the other
pub regrouped : (none a b c d all : List Lit) → none ≡ [] → all ≡ (((none ++ a) ++ b) ++ c) ++ d → all ≡ (a ++ b) ++ (c ++ d)
regrouped none a b c d all empty is = is ∙ ap (λ (xs : List Lit). (((xs ++ a) ++ b) ++ c) ++ d) empty ∙ append_assoc (a ++ b) c d

pub all_fitting : (plant : Plant) (goals : List Tree) → All (GoalFits plant) goals → list_all (fits (plant_ranges plant)) goals ≡ true
all_fitting plant [] fit = refl
all_fitting plant (g ∷ gs) fit =
    and_from (fits (plant_ranges plant) g) (list_all (fits (plant_ranges plant)) gs) (All-head (GoalFits plant) g gs fit).equations (all_fitting plant gs (All-tail (GoalFits plant) g gs fit))

plant_few : (plant : Plant) → is_well_formed plant ≡ true → length (model_clauses plant) ≤ 2 ^ 64
plant_few plant h = let few = few_clauses plant h in let count = count_within plant h in omega (arith, few, count)

-- what a step or lines tell of the steps that are asked for
module _ (v : Asked) (vars : List VarId) (k : IsAsking v vars) (s : State) (fit : modes_fit (plant_ranges v.plant) v.plant.parts s.modes ≡ true) (pairs : List Pair)
    (have : All (HasChoice (control_sizes v.plant)) pairs) where
  refuted_there : (more : Clauses) (ds : List Derived) → length (own_clauses v.plant v.aim s pairs more) ≤ 2 ^ 64
      → refutes v.system.set.bools (clauses_of v.system ++ own_clauses v.plant v.aim s pairs more) ds ≡ true → AreRefuted v.plant (own_clauses v.plant v.aim s pairs more) ds
  refuted_there more ds few told =
      let long = length-append (model_clauses v.plant) (own_clauses v.plant v.aim s pairs more) in
      let most = plant_few v.plant k.well_formed in
      record {
        refuted = sym (λ i. refutes (k.of_plant.bools i) (clauses_are v.plant v.system k.of_plant i ++ own_clauses v.plant v.aim s pairs more) ds) ∙ told;
        few = omega (arith, long, most, few);
      }

  module _ (more : Clauses) (p : StepPair) (d : IsDecodedFrom v.system (own_clauses v.plant v.aim s pairs more) p) where
    told_step : IsStepFrom v.plant v.aim s pairs p.now p.next
    told_step = decoded_step v.plant k.well_formed v.aim v.system k.of_plant s fit k.asked.fits.present pairs have d.values p.now p.next p.moves d.decoded more d.true_of.own_hold

    told_hold : list_all (clause_holds d.values) more ≡ true
    told_hold = more_hold v.plant k.well_formed v.aim v.system k.of_plant s fit k.asked.fits.present pairs have d.values p.now p.next p.moves d.decoded more d.true_of.own_hold

    told_code : IsModelOf v.plant v.system p.now p.next p.moves d.values
    told_code = model_of v.plant k.well_formed v.aim v.system k.of_plant s fit k.asked.fits.present pairs have d.values p.now p.next p.moves d.decoded more d.true_of.own_hold

  pub reach_tells : (told : Told) → IsToldOf v.system (own_clauses v.plant v.aim s pairs (reached_clauses v.plant v.aim)) told → TellsReached v.plant v.aim s pairs told
  reach_tells (Step p) is =
      let d : IsDecodedFrom v.system (own_clauses v.plant v.aim s pairs (reached_clauses v.plant v.aim)) p = is.told in
      record {
        step = told_step (reached_clauses v.plant v.aim) p d;
        goals =
            goals_mean v.plant d.values p.next (told_code (reached_clauses v.plant v.aim) p d).next v.aim.goals (all_fitting v.plant v.aim.goals k.asked.fits.goals)
            (told_hold (reached_clauses v.plant v.aim) p d);
      }
  reach_tells (Lines ds) is = refuted_there (reached_clauses v.plant v.aim) (map derived_of ds) is.few is.told

  pub miss_tells : (goal : Tree) → GoalFits v.plant goal → (told : Told) → IsToldOf v.system (own_clauses v.plant v.aim s pairs (goal_clauses v.plant false goal)) told
      → TellsMissed v.plant v.aim s pairs goal told
  miss_tells goal fitting (Step p) is =
      let d : IsDecodedFrom v.system (own_clauses v.plant v.aim s pairs (goal_clauses v.plant false goal)) p = is.told in
      record {
        step = told_step (goal_clauses v.plant false goal) p d;
        fails =
            as_not (truth_of p.next 0 goal)
            (sym (goal_means v.plant d.values p.next (told_code (goal_clauses v.plant false goal) p d).next goal fitting.equations false) ∙ told_hold (goal_clauses v.plant false goal) p d);
      }
  miss_tells goal fitting (Lines ds) is = refuted_there (goal_clauses v.plant false goal) (map derived_of ds) is.few is.told
