-- What is known where a block of a recovery is refuted: which goals no nominal step reaches, or misses.
use Rattle.std.proofs.Common.{◌≡◌, ℕ, Bool, true, false, ◌&&◌, nat_eq, List, [], ◌∷◌, ◌++◌, length, Ok, Err, Result, Some, None, cond, inl, inr, refl, sym, ◌∙◌, ap}
use Rattle.std.specs.Prelude.{map}
use Rattle.std.specs.Option.{option_and_then}
use Rattle.std.specs.List.{list_all, flat_map}
use Rattle.std.specs.Cmp.Lexicographic.{pointwise}
use Rattle.std.proofs.lemmas.Bool.{and_parts, and_from, false_from_ne_true}
use Rattle.std.proofs.lemmas.List.Folds.{list_all-append}
use Rattle.lv_cert_meaning.specs.lv_base.declared.ids.ValId.{ValId}
use Rattle.lv_cert_meaning.specs.lv_base.declared.ids.VarId.{VarId}
use Rattle.lv_cert_meaning.specs.lv_base.declared.search.Pair.{Pair}
use Rattle.lv_cert_meaning.specs.lv_text.Lexemes.{Reading, reads, has_bad_byte, is_too_long, line_reading}
use Rattle.lv_cert_meaning.specs.lv_clauses.Literals.{same_truth, lit_holds, clause_holds}
use Rattle.lv_cert_meaning.specs.lv_base.Tree.{Tree, truth_of}
use Rattle.lv_cert_meaning.specs.lv_base.Fits.{fits}
use Rattle.lv_cert_meaning.specs.lv_model.declared.plant.Plant.{Plant}
use Rattle.lv_cert_meaning.specs.lv_model.declared.state.State.{State}
use Rattle.lv_cert_meaning.specs.lv_model.Counts.{has_count, law_sizes}
use Rattle.lv_cert_meaning.specs.lv_model.Lists.{controls}
use Rattle.lv_cert_meaning.specs.lv_model.Ranges.{plant_ranges}
use Rattle.lv_cert_meaning.specs.lv_model.WellFormed.{is_well_formed}
use Rattle.lv_cert_meaning.specs.lv_formula_text.PhraseTree.{PhraseTree}
use Rattle.lv_cert_meaning.specs.lv_formula_text.Nesting.{is_too_deep}
use Rattle.lv_cert_meaning.specs.lv_formula_text.Canonical.{canonical_text}
use Rattle.lv_cert_meaning.specs.lv_formula_text.Resolving.{resolved}
use Rattle.lv_cert_meaning.specs.lv_formula_text.declared.resolver.NameFault.{NameFault}
use Rattle.lv_cert_meaning.proofs.lv_formula_text.FittingLemmas.{resolved_fits}
use Rattle.lv_cert_meaning.specs.lv_formula_text.Descent.{phrase_of}
use Rattle.lv_cert_meaning.specs.lv_model_names.Names.{plant_names}
use Rattle.lv_cert_meaning.proofs.lv_model_names.ScopeLemmas.{scope_fits}
use Rattle.lv_cert_meaning.specs.lv_meaning.Facts.{meets, commanded}
use Rattle.lv_cert_meaning.specs.lv_meaning.Possible.{value, move_number}
use Rattle.lv_cert_meaning.proofs.lv_meaning.Among.{Among}
use Rattle.lv_cert_meaning.specs.lv_compile.Booleans.{booleans_next, bool_count}
use Rattle.lv_cert_meaning.specs.lv_compile.FormulaClauses.{Clauses, formula_clauses}
use Rattle.lv_cert_meaning.specs.lv_compile.ModelClauses.{model_clauses}
use Rattle.lv_cert_meaning.proofs.lv_compile.CleaningLemmas.{cleaned_true}
use Rattle.lv_cert_meaning.proofs.lv_compile.FormulaLemmas.{exact}
use Rattle.lv_cert_meaning.proofs.lv_compile.RangeLemmas.{have_system}
use Rattle.lv_cert_meaning.specs.lv_system.Encoding.{truth_in}
use Rattle.lv_cert_meaning.specs.lv_meaning.Recovers.{meets_goals, reaches}
use Rattle.lv_cert_meaning.specs.lv_meaning.RecoveryLaws.{NominalStep}
use Rattle.lv_cert_meaning.proofs.lv_meaning.NominalSteps.{StepFound, step_found}
use Rattle.lv_cert_meaning.specs.Stated.{Stated, simple_goal, goal_as, goal_in, goal_of}
use Rattle.lv_cert_meaning.specs.Units.{mode_literals, no_fault_literals, control_literal, goal_clauses, nominal_units}
use Rattle.lv_cert_meaning.specs.Laws.{aim_of}
use Rattle.lv_cert_laws.proofs.Options.{anded}
use Rattle.lv_cert_laws.proofs.Saying.{Says}
use Rattle.lv_cert_laws.proofs.Blocks.{IsCoded, code_of, step_is_coded, units_hold}
use Rattle.lv_cert_laws.proofs.Nominal.{modes_true, controls_true, no_fault_true}

-- what a recovery states: its literals are said, it has no values of controls and no facts after the step, and its goals are of the plant
pub record IsKnown (plant : Plant) (s : Stated) : Type 0 where
  pub one : s.k ≡ 1
  pub says : Says plant s
  pub uncommanded : s.facts.controls ≡ []
  pub unseen : s.facts.next ≡ []
  pub fit : (goal : Tree) → Among goal s.goals → fits (plant_ranges plant) goal ≡ true

-- the goal of a text is of the plant
module _ (plant : Plant) (goal : Tree) where
  simple_fits : (phrase : PhraseTree) (r : Result Tree NameFault) → resolved (plant_names plant) phrase ≡ r → simple_goal plant r ≡ Some goal → fits (plant_ranges plant) goal ≡ true
  simple_fits phrase (Err fault) is h = absurd (cc h)
  simple_fits phrase (Ok f) is h = by (has_count (law_sizes plant) true f && has_count (law_sizes plant) false f) h
    where
      by : (b : Bool) → cond b (Some f) None ≡ Some goal → fits (plant_ranges plant) goal ≡ true
      by false e = absurd (cc e)
      by true e =
          let same : f ≡ goal = cc e in
          sym (ap (fits (plant_ranges plant)) same) ∙ resolved_fits (plant_names plant) (plant_ranges plant) (scope_fits plant) phrase f is

  phrase_fits : (text : List ℕ) (phrase : PhraseTree) → goal_as plant text phrase ≡ Some goal → fits (plant_ranges plant) goal ≡ true
  phrase_fits text phrase h = by (pointwise nat_eq (canonical_text phrase) text) h
    where
      by : (b : Bool) → cond b (simple_goal plant (resolved (plant_names plant) phrase)) None ≡ Some goal → fits (plant_ranges plant) goal ≡ true
      by false e = absurd (cc e)
      by true e = simple_fits phrase (resolved (plant_names plant) phrase) refl e

  read_fits : (text : List ℕ) (r : Reading) → goal_in plant text r ≡ Some goal → fits (plant_ranges plant) goal ≡ true
  read_fits text (has_bad_byte place) h = absurd (cc h)
  read_fits text is_too_long h = absurd (cc h)
  read_fits text (reads line) h = by (is_too_deep line) h
    where
      by : (b : Bool) → cond b None (option_and_then (goal_as plant text) (phrase_of line)) ≡ Some goal → fits (plant_ranges plant) goal ≡ true
      by true e = absurd (cc e)
      by false e = let found = anded (goal_as plant text) (phrase_of line) goal e in phrase_fits text found.0 found.2

  pub goal_fits : (text : List ℕ) → goal_of plant text ≡ Some goal → fits (plant_ranges plant) goal ≡ true
  unfolding goal_of
  goal_fits text h = read_fits text (line_reading text) h

uncommanded_met : (a : List ValId) (cs : List VarId) → meets a (commanded cs []) ≡ true
uncommanded_met a [] = refl
uncommanded_met a (c ∷ cs) = refl

module _ (plant : Plant) (h : is_well_formed plant ≡ true) (s : Stated) (known : IsKnown plant s) (state : State) (pairs : List Pair) where
  module _ (w : NominalStep plant s.facts.present state pairs) where
    abbrev values : List Bool
    values = code_of plant w.before w.after w.moves

    coded : IsCoded plant w.before w.after w.moves values
    coded = step_is_coded plant h w.before w.after w.moves w.before_below w.after_below w.moves_below w.step

    stated_true : list_all (lit_holds values) s.literals ≡ true
    stated_true =
        known.says.holds (truth_in values) (map value w.before) (map value w.after) coded.now coded.next
        (ap (λ vs. meets (map value w.before) (commanded (controls plant) vs)) known.uncommanded ∙ uncommanded_met (map value w.before) (controls plant)) w.observed
        (ap (meets (map value w.after)) known.unseen)

    begins_true : list_all (clause_holds values) (nominal_units plant state.modes s.literals pairs) ≡ true
    begins_true =
        units_hold values ((mode_literals plant plant.parts state.modes ++ no_fault_literals plant 0 plant.parts) ++ (s.literals ++ map (control_literal plant) pairs))
        ∙ list_all-append (lit_holds values) (mode_literals plant plant.parts state.modes ++ no_fault_literals plant 0 plant.parts) (s.literals ++ map (control_literal plant) pairs)
        ∙ and_from (list_all (lit_holds values) (mode_literals plant plant.parts state.modes ++ no_fault_literals plant 0 plant.parts)) (list_all (lit_holds values) (s.literals ++ map (control_literal plant) pairs))
        (list_all-append (lit_holds values) (mode_literals plant plant.parts state.modes) (no_fault_literals plant 0 plant.parts)
        ∙ and_from (list_all (lit_holds values) (mode_literals plant plant.parts state.modes)) (list_all (lit_holds values) (no_fault_literals plant 0 plant.parts))
        (modes_true plant h (truth_in values) (map value w.before) coded.now state.modes w.modes)
        (no_fault_true plant (truth_in values) (map move_number w.moves) coded.choice w.nominal))
        (list_all-append (lit_holds values) s.literals (map (control_literal plant) pairs)
        ∙ and_from (list_all (lit_holds values) s.literals) (list_all (lit_holds values) (map (control_literal plant) pairs)) stated_true
        (controls_true plant h (truth_in values) (map value w.before) coded.now pairs w.commanded))

    -- the clauses of a goal in the sign that it has behind the step
    goal_true : (goal : Tree) → fits (plant_ranges plant) goal ≡ true → (sign : Bool) → same_truth (truth_of (map value w.after) 0 goal) sign ≡ true
        → list_all (clause_holds values) (goal_clauses plant sign goal) ≡ true
    goal_true goal fit sign is =
        cleaned_true (truth_in values) (formula_clauses (booleans_next plant) 0 sign goal)
        ∙ exact (plant_ranges plant) (booleans_next plant) 0 (have_system plant (booleans_next plant) refl) (truth_in values) (map value w.after) coded.next goal fit sign
        ∙ is

    goals_true : (goals : List Tree) → ((goal : Tree) → Among goal goals → fits (plant_ranges plant) goal ≡ true) → meets_goals goals (map value w.after) ≡ true
        → list_all (clause_holds values) (flat_map (goal_clauses plant true) goals) ≡ true
    goals_true [] fit met = refl
    goals_true (goal ∷ goals) fit met =
        let two = and_parts (truth_of (map value w.after) 0 goal) (meets_goals goals (map value w.after)) met in
        list_all-append (clause_holds values) (goal_clauses plant true goal) (flat_map (goal_clauses plant true) goals)
        ∙ and_from (list_all (clause_holds values) (goal_clauses plant true goal)) (list_all (clause_holds values) (flat_map (goal_clauses plant true) goals))
        (goal_true goal (fit goal (inl refl)) true (ap (λ b. same_truth b true) two.0)) (goals_true goals (λ g a. fit g (inr a)) two.1)

    block_true : (more : Clauses) → list_all (clause_holds values) more ≡ true → list_all (clause_holds values) (model_clauses plant ++ (nominal_units plant state.modes s.literals pairs ++ more)) ≡ true
    block_true more hold =
        list_all-append (clause_holds values) (model_clauses plant) (nominal_units plant state.modes s.literals pairs ++ more)
        ∙ and_from (list_all (clause_holds values) (model_clauses plant)) (list_all (clause_holds values) (nominal_units plant state.modes s.literals pairs ++ more)) coded.model
        (list_all-append (clause_holds values) (nominal_units plant state.modes s.literals pairs) more
        ∙ and_from (list_all (clause_holds values) (nominal_units plant state.modes s.literals pairs)) (list_all (clause_holds values) more) begins_true hold)

  -- no values make the model's clauses, those of a nominal step and these true
  abbrev pub IsBlocked : Clauses → Type 0
  IsBlocked more =
      (values : List Bool) → length values ≡ bool_count plant → list_all (clause_holds values) (model_clauses plant ++ (nominal_units plant state.modes s.literals pairs ++ more)) ≡ true → ⊥

  pub never_reached : IsBlocked (flat_map (goal_clauses plant true) s.goals) → reaches plant (aim_of s) state pairs ≡ false
  never_reached none =
      false_from_ne_true (reaches plant (aim_of s) state pairs)
      (λ can.
      let f : StepFound plant s.facts.present state pairs (meets_goals s.goals) = step_found plant s.facts.present state pairs (meets_goals s.goals) can in
      none (values f.step) (coded f.step).whole (block_true f.step (flat_map (goal_clauses plant true) s.goals) (goals_true f.step s.goals known.fit f.ends_so)))

  pub never_missed : (goal : Tree) → Among goal s.goals → IsBlocked (goal_clauses plant false goal) → (w : NominalStep plant s.facts.present state pairs)
      → truth_of (map value w.after) 0 goal ≡ true
  never_missed goal among none w = by (truth_of (map value w.after) 0 goal) refl
    where
      by : (b : Bool) → truth_of (map value w.after) 0 goal ≡ b → truth_of (map value w.after) 0 goal ≡ true
      by true e = e
      by false e = absurd (none (values w) (coded w).whole (block_true w (goal_clauses plant false goal) (goal_true w goal (known.fit goal among) false (ap (λ b. same_truth b false) e))))
