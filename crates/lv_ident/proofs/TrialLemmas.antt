-- What a trial asks, and what it tells.
use Rattle.std.proofs.Common.{◌≡◌, ℕ, ◌+◌, ◌<◌, ◌≤◌, Bool, true, false, ◌&&◌, append_assoc, List, [], ◌∷◌, ◌++◌, refl, sym, subst, ap, ◌∙◌, arith, All}
use Rattle.std.specs.List.{list_all, sum}
use Rattle.std.proofs.lemmas.Bool.{and_parts, and_from}
use Rattle.std.proofs.lemmas.List.{map-append}
use Rattle.std.proofs.lemmas.List.Elements.{All-append, All-cons, All-nil}
use Rattle.std.proofs.lemmas.List.Folds.{list_all-append}
use Rattle.lv_base.specs.declared.ids.Lit.{Lit}
use Rattle.lv_base.specs.declared.search.Pair.{Pair}
use Rattle.lv_clauses.specs.Literals.{lit_holds}
use Rattle.lv_clauses.specs.ClauseMap.{ClauseMap}
use Rattle.lv_model.specs.declared.plant.Plant.{Plant}
use Rattle.lv_model.specs.Lists.{sizes, move_counts}
use Rattle.lv_model.specs.WellFormed.{is_well_formed}
use Rattle.lv_compile.specs.Booleans.{booleans_next, first_choice, bool_count}
use Rattle.lv_compile.specs.Laws.{IsEncodedStep}
use Rattle.lv_system.specs.Choices.{Choices}
use Rattle.lv_system.specs.System.{SystemValue, IsSystemOf, choices_of}
use Rattle.lv_system.specs.Encoding.{truth_in}
use Rattle.lv_system.proofs.SystemLemmas.{model_is_a_step}
use Rattle.lv_meaning.specs.declared.facts.Observation.{Observation}
use Rattle.lv_meaning.specs.declared.facts.Facts.{Facts}
use Rattle.lv_meaning.specs.Facts.{FactsInRange, HasValue}
use Rattle.lv_meaning.specs.Possible.{is_possible}
use Rattle.lv_meaning.proofs.Possibility.{part_possible}
use Rattle.lv_asking.specs.Literals.{observed_literal, pair_literals, HasMove, IsPositive, IsOnce}
use Rattle.lv_asking.specs.Refutation.{HasModel}
use Rattle.lv_asking.specs.Lemmas.{HaveSameModels}
use Rattle.lv_asking.specs.Asking.{AskingValue, AskTheSame, Decides, beside}
use Rattle.lv_asking.proofs.SameLemmas.{decides_the_same, beside_the_same}
use Rattle.lv_ident.specs.Literals.{fact_literals, plant_choices}
use Rattle.lv_ident.specs.Probing.{with_next}
use Rattle.lv_ident.specs.Trial.{TellsFacts}
use Rattle.lv_ident.proofs.MeaningLemmas.{step_makes_possible, HasValues, possible_has_values}
use Rattle.lv_ident.proofs.ClauseLemmas.{observed_positive, facts_positive}

module _ (plant : Plant) (s : SystemValue) (is : IsSystemOf plant s) where
  numbering : choices_of s ≡ plant_choices plant
  numbering = λ i. record { first = is.first_choice i; counts = is.counts i }

  -- the moves stand behind the values
  pub first_is : (choices : Choices) → choices ≡ choices_of s → (n : ℕ) → n ≡ choices.first → n ≡ first_choice plant
  first_is choices same n at = at ∙ ap (λ (c : Choices). c.first) (same ∙ numbering)

  pub choices_fit : (choices : Choices) → choices ≡ choices_of s → (set : ClauseMap) → HaveSameModels s.set set → choices.first + sum choices.counts ≤ set.bools
  choices_fit choices same set models =
      let first : choices.first ≡ first_choice plant = ap (λ (c : Choices). c.first) (same ∙ numbering) in
      let counts : sum choices.counts ≡ sum (move_counts plant) = ap (λ (c : Choices). sum c.counts) (same ∙ numbering) in
      let bools : set.bools ≡ bool_count plant = models.bools ∙ is.bools in
      omega (arith, first, counts, bools)

-- two systems of a plant number its moves alike
pub same_numbering : (plant : Plant) (one other : SystemValue) → IsSystemOf plant one → IsSystemOf plant other → (choices : Choices) → choices ≡ choices_of one → choices ≡ choices_of other
same_numbering plant one other is also choices at = at ∙ numbering plant one is ∙ sym (numbering plant other also)

module _ (plant : Plant) (h : is_well_formed plant ≡ true) (s : SystemValue) (is : IsSystemOf plant s) where
  choices_are : choices_of s ≡ plant_choices plant
  choices_are = numbering plant s is

  abbrev own_asking : List Lit → AskingValue
  own_asking assumed = record { set = s.set; choices = choices_of s; assumed = assumed }

  module _ (facts : Facts) (fit : FactsInRange plant facts) (assumed : List Lit) (says : (values : List Bool) → list_all (lit_holds values) assumed ≡ list_all (lit_holds values) (fact_literals plant facts)) where
    moves_are : (pairs : List Pair) → All (HasMove s.counts) pairs → All (HasMove (move_counts plant)) pairs
    moves_are pairs have = subst (λ (ns : List ℕ). All (HasMove ns) pairs) is.counts have

    model_possible : (pairs : List Pair) → All (HasMove s.counts) pairs → HasModel s.set (pair_literals (choices_of s) pairs ++ assumed) → is_possible plant facts pairs ≡ true
    model_possible pairs have m =
        let values : List Bool = m.values in
        let both =
        and_parts (list_all (lit_holds values) (pair_literals (choices_of s) pairs)) (list_all (lit_holds values) assumed)
        (sym (list_all-append (lit_holds values) (pair_literals (choices_of s) pairs) assumed) ∙ m.model.all_assumptions)
        in
        let step : IsEncodedStep plant (truth_in values) = model_is_a_step plant h s is values m.model.all_clauses in
        step_makes_possible plant facts pairs fit (moves_are pairs have) values step
        (ap (λ (c : Choices). list_all (lit_holds values) (pair_literals c pairs)) (sym choices_are) ∙ both.0) (sym (says values) ∙ both.1)

    possible_model : (pairs : List Pair) → All (HasMove s.counts) pairs → is_possible plant facts pairs ≡ true → HasModel s.set (pair_literals (choices_of s) pairs ++ assumed)
    possible_model pairs have can =
        let moves : All (HasMove (move_counts plant)) pairs = moves_are pairs have in
        let v : HasValues plant facts pairs fit moves s = possible_has_values plant facts pairs fit moves h s is can in
        let values : List Bool = v.values in
        record {
          values = values;
          model = record {
            len = v.whole ∙ sym is.bools;
            all_clauses = v.satisfied;
            all_assumptions =
                list_all-append (lit_holds values) (pair_literals (choices_of s) pairs) assumed
                ∙ and_from (list_all (lit_holds values) (pair_literals (choices_of s) pairs)) (list_all (lit_holds values) assumed)
                (ap (λ (c : Choices). list_all (lit_holds values) (pair_literals c pairs)) choices_are ∙ v.chosen) (says values ∙ v.seen);
          };
        }

    -- the clauses, and literals that say what the facts say, decide what is possible under the facts
    facts_decide : Decides (own_asking assumed) (is_possible plant facts)
    facts_decide = record { possible_of = model_possible; model_of = possible_model; part = part_possible plant facts }

  module _ (facts : Facts) (fit : FactsInRange plant facts) (assumed : List Lit) (says : (values : List Bool) → list_all (lit_holds values) assumed ≡ list_all (lit_holds values) (fact_literals plant facts)) (o : Observation) (has : HasValue (sizes plant) o) where
    abbrev seen : Lit
    seen = observed_literal (booleans_next plant) o

    one : All (HasValue (sizes plant)) (o ∷ [])
    one = All-cons (HasValue (sizes plant)) o [] has (All-nil (HasValue (sizes plant)))

    more_in_range : FactsInRange plant (with_next facts o)
    more_in_range = record { now = fit.now; next = All-append (HasValue (sizes plant)) facts.next (o ∷ []) fit.next one }

    facts_more : fact_literals plant (with_next facts o) ≡ fact_literals plant facts ++ observed_literal (booleans_next plant) o ∷ []
    facts_more = simp (map-append, append_assoc)

    says_more : (values : List Bool) → list_all (lit_holds values) (seen ∷ assumed) ≡ list_all (lit_holds values) (fact_literals plant (with_next facts o))
    says_more values =
        ap (λ (b : Bool). lit_holds values seen && b) (says values)
        ∙ turned (lit_holds values seen) (list_all (lit_holds values) (fact_literals plant facts))
        ∙ sym (list_all-append (lit_holds values) (fact_literals plant facts) (seen ∷ []))
        ∙ sym (ap (list_all (lit_holds values)) facts_more)
      where
        turned : (a b : Bool) → (a && b) ≡ (b && (a && true))
        turned true true = refl
        turned true false = refl
        turned false true = refl
        turned false false = refl

    -- so does what is observed too, beside them
    observed_decides : Decides (beside seen (own_asking assumed)) (is_possible plant (with_next facts o))
    observed_decides = facts_decide (with_next facts o) more_in_range (seen ∷ assumed) says_more

  -- what is asked, of clauses that the same values satisfy, tells what is possible under the facts
  pub tells_facts : (facts : Facts) → FactsInRange plant facts → (choices : Choices) → choices ≡ choices_of s → (set : ClauseMap) → HaveSameModels s.set set → (n : ℕ) → (lits : List Lit) → lits ≡ fact_literals plant facts
      → (assumed : List Lit) → IsOnce n lits assumed → TellsFacts plant facts (record { set = set; choices = choices; assumed = assumed })
  tells_facts facts fit choices choices_is set models n lits lits_are assumed once =
      let own : IsOnce n (fact_literals plant facts) assumed = subst (λ (ls : List Lit). IsOnce n ls assumed) lits_are once in
      let asked : AskingValue = record { set = set; choices = choices; assumed = assumed } in
      let same : AskTheSame (own_asking assumed) asked = record { models = models; choices = choices_is; assumed = refl } in
      record {
        choices = choices_is ∙ choices_are;
        decides = decides_the_same (own_asking assumed) asked same (is_possible plant facts) (facts_decide facts fit assumed own.says);
        seeing =
            λ o has.
            let l : Lit = observed_literal (booleans_next plant) o in
            decides_the_same (beside l (own_asking assumed)) (beside l asked) (beside_the_same (own_asking assumed) asked l same) (is_possible plant (with_next facts o)) (observed_decides facts fit assumed own.says o has);
      }

-- the literals of facts are of booleans before those of the moves
pub facts_asked : (plant : Plant) (facts : Facts) → FactsInRange plant facts → (n : ℕ) → n ≡ first_choice plant → (lits : List Lit) → lits ≡ fact_literals plant facts → All (IsPositive n) lits
facts_asked plant facts fit n n_is lits is =
    subst (λ m. All (IsPositive m) lits) (sym n_is) (subst (λ (ls : List Lit). All (IsPositive (first_choice plant)) ls) (sym is) (facts_positive plant facts fit))

-- so is what an observation after the step says
pub seen_before_moves : (plant : Plant) (o : Observation) → HasValue (sizes plant) o → (observed_literal (booleans_next plant) o).var.0 < first_choice plant
seen_before_moves plant o has =
    (observed_positive plant (booleans_next plant) (first_choice plant) (omega arith) (o ∷ []) (All-cons (HasValue (sizes plant)) o [] has (All-nil (HasValue (sizes plant)))) 0 (observed_literal (booleans_next plant) o) (omega arith)).below
