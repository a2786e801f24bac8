-- What the solvers of a recovery ask.
use Rattle.std.proofs.Common.{◌≡◌, ◌+◌, ℕ, Bool, true, false, ◌&&◌, not, List, [], ◌∷◌, drop, All, IsTrue, refl, sym, subst, ap, ◌∙◌, arith}
use Rattle.std.specs.List.{list_all}
use Rattle.std.proofs.lemmas.Bool.{and_parts}
use Rattle.std.proofs.lemmas.List.Elements.{All-cons}
use Rattle.lv_base.specs.declared.ids.Lit.{Lit}
use Rattle.lv_base.specs.declared.ids.ValId.{ValId}
use Rattle.lv_base.specs.declared.ids.MoveId.{MoveId}
use Rattle.lv_clauses.specs.Literals.{same_truth, is_clause, clause_holds}
use Rattle.lv_clauses.specs.ClauseMap.{ClauseMap, satisfies}
use Rattle.lv_clauses.proofs.LiteralLemmas.{all_member}
use Rattle.lv_base.specs.Tree.{Tree, truth_of}
use Rattle.lv_base.specs.Fits.{fits}
use Rattle.lv_model.specs.declared.plant.Plant.{Plant}
use Rattle.lv_model.specs.Ranges.{plant_ranges}
use Rattle.lv_model.specs.Meaning.{is_step, is_nominal}
use Rattle.lv_model.specs.WellFormed.{is_well_formed}
use Rattle.lv_meaning.specs.declared.facts.Observation.{Observation}
use Rattle.lv_meaning.specs.Facts.{meets}
use Rattle.lv_compile.specs.Booleans.{Booleans, booleans_next, bool_count}
use Rattle.lv_compile.specs.FormulaClauses.{formula_clauses, speaks_of}
use Rattle.lv_compile.specs.Cleaning.{cleaned}
use Rattle.lv_compile.specs.ModelClauses.{model_clauses}
use Rattle.lv_compile.proofs.StepLemmas.{step_exact}
use Rattle.lv_search.proofs.lv_boxes.RankedMemberLemmas.{one_test}
use Rattle.lv_system.specs.Encoding.{truth_in}
use Rattle.lv_system.specs.Numbering.{IsOver}
use Rattle.lv_system.specs.Goals.{goal_clauses}
use Rattle.lv_system.proofs.GoalLemmas.{goals_exact}
use Rattle.lv_system.specs.System.{SystemValue, IsSystemOf}
use Rattle.lv_system.proofs.NumberingLemmas.{numbered_hold, all_present_hold}
use Rattle.lv_system.proofs.SystemLemmas.{model_is_a_step}
use Rattle.lv_meaning.specs.Recovers.{meets_goals}
use Rattle.lv_reconf.specs.Compiling.{SayGoal}
use Rattle.lv_reconf.specs.Narrowing.{Encodes, Adds, Narrows, NarrowsSoFar, Asks}
use Rattle.lv_reconf.proofs.NarrowingLemmas.{narrows_by, adds_narrow}

module _ (plant : Plant) (well : is_well_formed plant ≡ true) (s : SystemValue) (is : IsSystemOf plant s) where
  -- the system's clauses are true exactly of steps
  system_exact : (values : List Bool) (a b : List ValId) (ms : List MoveId) → Encodes plant values a b ms → satisfies values s.set.slots ≡ is_step plant a b ms
  system_exact values a b ms code =
      let holds : list_all (clause_holds values) (model_clauses plant) ≡ is_step plant a b ms = step_exact plant well (truth_in values) a b code.now code.next ms code.choice in
      one_test (satisfies values s.set.slots) (is_step plant a b ms) (λ all. sym holds ∙ numbered_hold values s.set.slots all s.ids (model_clauses plant) is.numbered.each)
      (λ step. all_present_hold values s.set.slots (λ n c at. all_member (clause_holds values) (model_clauses plant) c (holds ∙ step) (is.among n c at)))

  pub asks_plain : (present : List Observation) (base mid new : ClauseMap) → base ≡ s.set → Narrows plant base mid (λ a b ms. meets a present) → Narrows plant mid new (λ a b ms. is_nominal plant ms)
      → Asks plant present (λ b. true) new
  asks_plain present base mid new same observed nominal =
      record {
        bools = nominal.bools ∙ observed.bools ∙ ap (λ (m : ClauseMap). m.bools) same ∙ is.bools;
        decodes = λ values h. model_is_a_step plant well s is values (subst (λ (m : ClauseMap). satisfies values m.slots ≡ true) same (observed.fewer values (nominal.fewer values h)));
        exact =
            λ values a b ms code.
            nominal.exact values a b ms code
            ∙ ap (λ t. t && is_nominal plant ms) (observed.exact values a b ms code)
            ∙ ap (λ t. (t && meets a present) && is_nominal plant ms) (ap (λ (m : ClauseMap). satisfies values m.slots) same ∙ system_exact values a b ms code)
            ∙ sym (with_true ((is_step plant a b ms && meets a present) && is_nominal plant ms));
      }
    where
      with_true : (t : Bool) → (t && true) ≡ t
      with_true true = refl
      with_true false = refl

without_true : (t e : Bool) → ((t && true) && e) ≡ (t && e)
without_true true e = refl
without_true false e = refl

module _ (plant : Plant) where
  pub asks_more : (present : List Observation) (ends : List ValId → Bool) (base old new : ClauseMap) → old ≡ base → Asks plant present (λ b. true) base
      → Narrows plant old new (λ a b ms. ends b) → Asks plant present ends new
  asks_more present ends base old new same asks more =
      record {
        bools = more.bools ∙ ap (λ (m : ClauseMap). m.bools) same ∙ asks.bools;
        decodes = λ values h. asks.decodes values (subst (λ (m : ClauseMap). satisfies values m.slots ≡ true) same (more.fewer values h));
        exact =
            λ values a b ms code.
            more.exact values a b ms code
            ∙ ap (λ t. t && ends b) (ap (λ (m : ClauseMap). satisfies values m.slots) same ∙ asks.exact values a b ms code)
            ∙ without_true ((is_step plant a b ms && meets a present) && is_nominal plant ms) (ends b);
      }

  pub asks_missing : (present : List Observation) (goal : Tree) (base old new : ClauseMap) → old ≡ base → Asks plant present (λ b. true) base
      → Narrows plant old new (λ a b ms. same_truth (truth_of b 0 goal) false) → Asks plant present (λ b. not (truth_of b 0 goal)) new
  asks_missing present goal base old new same asks more =
      asks_more present (λ b. not (truth_of b 0 goal)) base old new same asks
      (record { bools = more.bools; fewer = more.fewer; exact = λ values a b ms code. more.exact values a b ms code ∙ ap (λ t. satisfies values old.slots && t) (as_false (truth_of b 0 goal)) })
    where
      as_false : (t : Bool) → same_truth t false ≡ not t
      as_false true = refl
      as_false false = refl

  as_true : (t : Bool) → same_truth t true ≡ t
  as_true true = refl
  as_true false = refl

  pub goal_more : (old mid new : ClauseMap) (i : ℕ) (goal : Tree) (goals : List Tree) → drop i goals ≡ goal ∷ drop (i + 1) goals
      → NarrowsSoFar plant old mid (λ a b ms. meets_goals (drop i goals) b) (λ a b ms. meets_goals goals b) → Narrows plant mid new (λ a b ms. same_truth (truth_of b 0 goal) true)
      → NarrowsSoFar plant old new (λ a b ms. meets_goals (drop (i + 1) goals) b) (λ a b ms. meets_goals goals b)
  goal_more old mid new i goal goals is so_far more =
      narrows_by plant old mid new (λ a b ms. meets_goals (drop i goals) b) (λ a b ms. meets_goals (drop (i + 1) goals) b) (λ a b ms. meets_goals goals b)
      (λ a b ms. same_truth (truth_of b 0 goal) true) so_far more
      (λ values a b ms code. ap (λ (gs : List Tree). meets_goals gs b) is ∙ ap (λ t. t && meets_goals (drop (i + 1) goals) b) (sym (as_true (truth_of b 0 goal))))

pub all_over : (bools : ℕ) (cs : List (List Lit)) → list_all (is_clause bools) cs ≡ true → All (IsOver bools) cs
all_over bools [] h = λ k d below. absurd (omega arith)
all_over bools (c ∷ cs) h = let two = and_parts (is_clause bools c) (list_all (is_clause bools) cs) h in All-cons (IsOver bools) c cs (record { clause = two.0 }) (all_over bools cs two.1)

pub well_of : (given plant : Plant) → given ≡ plant → IsTrue (is_well_formed given) → is_well_formed plant ≡ true
well_of given plant same well = subst (λ (p : Plant). is_well_formed p ≡ true) same well

-- a goal's clauses over the booleans after the step say what it says
module _ (plant : Plant) (s : SystemValue) (is : IsSystemOf plant s) (after : Booleans) (next : after ≡ booleans_next plant)
    (goal : Tree) (fit : fits (plant_ranges plant) goal ≡ true) (tree : Tree) (same : tree ≡ goal) where
  of_system : after ≡ s.after
  of_system = next ∙ sym is.after

  pub goal_is_spoken : speaks_of after 0 tree ≡ true
  goal_is_spoken = (λ i. speaks_of (of_system i) 0 (same i)) ∙ goals_exact.speaks plant s is goal fit

  pub goal_is_said : (sign : Bool) (cs : List (List Lit)) → cs ≡ cleaned (formula_clauses after 0 sign tree) → SayGoal plant goal sign cs
  goal_is_said sign cs are =
      let of_goal : cs ≡ goal_clauses s sign goal = are ∙ (λ i. cleaned (formula_clauses (of_system i) 0 sign (same i))) in
      record {
        over = all_over (bool_count plant) cs (ap (list_all (is_clause (bool_count plant))) of_goal ∙ goals_exact.clauses plant s is goal fit sign);
        exact = λ values b code. ap (list_all (clause_holds values)) of_goal ∙ goals_exact.exact plant s is (truth_in values) b code goal fit sign;
      }

pub said_over : (plant : Plant) (goal : Tree) (sign : Bool) (cs : List (List Lit)) → SayGoal plant goal sign cs → (bools : ℕ) → bools ≡ bool_count plant → All (IsOver bools) cs
said_over plant goal sign cs said bools counted = subst (λ (n : ℕ). All (IsOver n) cs) (sym counted) said.over

pub said_narrows : (plant : Plant) (goal : Tree) (sign : Bool) (cs : List (List Lit)) → SayGoal plant goal sign cs → (old new : ClauseMap) → Adds old new cs
    → Narrows plant old new (λ a b ms. same_truth (truth_of b 0 goal) sign)
said_narrows plant goal sign cs said old new adds =
    adds_narrow plant old new cs (λ a b ms. same_truth (truth_of b 0 goal) sign) adds (λ values a b ms code. said.exact values b code.next)
