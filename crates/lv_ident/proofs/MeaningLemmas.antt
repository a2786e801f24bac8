-- What facts and choices say of truth values that encode a step, and which partial choices are possible by that.
use Rattle.std.proofs.Common.{◌≡◌, ℕ, Bool, true, ◌&&◌, List, length, map, refl, sym, ap, ap₂, ◌∙◌, All}
use Rattle.std.specs.List.{list_all}
use Rattle.std.proofs.lemmas.Bool.{and_parts, and_from}
use Rattle.std.proofs.lemmas.List.Folds.{list_all-append}
use Rattle.lv_base.specs.declared.ids.ValId.{ValId}
use Rattle.lv_base.specs.declared.ids.MoveId.{MoveId}
use Rattle.lv_base.specs.declared.search.Pair.{Pair}
use Rattle.lv_clauses.specs.Literals.{lit_holds}
use Rattle.lv_clauses.specs.ClauseMap.{satisfies}
use Rattle.lv_model.specs.declared.plant.Plant.{Plant}
use Rattle.lv_model.specs.Lists.{sizes, move_counts}
use Rattle.lv_model.specs.WellFormed.{is_well_formed}
use Rattle.lv_model.specs.Meaning.{is_step}
use Rattle.lv_compile.specs.Booleans.{booleans_now, booleans_next, bool_count}
use Rattle.lv_compile.specs.Laws.{literal_is_true, Encode, IsEncodedStep}
use Rattle.lv_system.specs.System.{SystemValue, IsSystemOf}
use Rattle.lv_system.specs.Encoding.{truth_in, encoded}
use Rattle.lv_system.specs.Laws.{IsWholeStep, IsModelOf}
use Rattle.lv_system.proofs.SystemLemmas.{step_has_a_model}
use Rattle.lv_meaning.specs.declared.facts.Facts.{Facts}
use Rattle.lv_meaning.specs.Facts.{now_facts, meets_facts, FactsInRange}
use Rattle.lv_meaning.specs.Possible.{value, move_number, extends, is_possible}
use Rattle.lv_meaning.specs.PossibleLaws.{Witness}
use Rattle.lv_meaning.proofs.Possibility.{witnessed, possible}
use Rattle.lv_asking.specs.Literals.{observed_literals, pair_literals, HasMove}
pub use Rattle.lv_asking.proofs.HoldLemmas.{observed_hold, pairs_hold}
use Rattle.lv_asking.proofs.NumberLemmas.{items_back, all_below, length_below, below_at, value_number, number_of_move, no_value, no_move}
use Rattle.lv_ident.specs.Literals.{fact_literals, plant_choices}

module _ (truth : ℕ → Bool) where
  -- the facts are true exactly where the assignments meet them
  pub facts_hold : (plant : Plant) (facts : Facts) (a b : List ValId) → Encode truth (booleans_now plant) a → Encode truth (booleans_next plant) b → FactsInRange plant facts
      → list_all (literal_is_true truth) (fact_literals plant facts) ≡ meets_facts plant facts a b
  facts_hold plant facts a b now next fit =
      list_all-append (literal_is_true truth) (observed_literals (booleans_now plant) (now_facts plant facts)) (observed_literals (booleans_next plant) facts.next)
      ∙ ap₂ (λ (p q : Bool). p && q) (observed_hold truth (booleans_now plant) a now (now_facts plant facts) fit.now) (observed_hold truth (booleans_next plant) b next facts.next fit.next)

module _ (plant : Plant) (facts : Facts) (pairs : List Pair) (fit : FactsInRange plant facts) (have : All (HasMove (move_counts plant)) pairs) where
  -- values that encode a step and make facts and pairs true are a witness
  pub step_makes_possible : (values : List Bool) → IsEncodedStep plant (truth_in values) → list_all (lit_holds values) (pair_literals (plant_choices plant) pairs) ≡ true
      → list_all (lit_holds values) (fact_literals plant facts) ≡ true → is_possible plant facts pairs ≡ true
  step_makes_possible values s chosen seen =
      let before = map value_number s.before in
      let after = map value_number s.after in
      let moves = map number_of_move s.moves in
      let given : extends s.moves pairs ≡ true = sym (pairs_hold (truth_in values) (plant_choices plant) s.moves s.choice pairs have) ∙ chosen in
      let met : meets_facts plant facts s.before s.after ≡ true = sym (facts_hold (truth_in values) plant facts s.before s.after s.now s.next fit) ∙ seen in
      possible plant facts pairs
      (record {
        before = before;
        after = after;
        moves = moves;
        before_below = all_below value value_number (λ v. refl) (λ n. refl) no_value (sizes plant) s.before s.whole_before s.now.in_range;
        after_below = all_below value value_number (λ v. refl) (λ n. refl) no_value (sizes plant) s.after s.whole_after s.next.in_range;
        moves_below = all_below move_number number_of_move (λ m. refl) (λ n. refl) no_move (move_counts plant) s.moves s.choice.each s.choice.in_range;
        step =
            and_from (extends (map move_number moves) pairs) (is_step plant (map value before) (map value after) (map move_number moves) && meets_facts plant facts (map value before) (map value after))
            (ap (λ ms. extends ms pairs) moves_back ∙ given)
            (and_from (is_step plant (map value before) (map value after) (map move_number moves)) (meets_facts plant facts (map value before) (map value after))
            ((λ i. is_step plant (before_back i) (after_back i) (moves_back i)) ∙ s.step) ((λ i. meets_facts plant facts (before_back i) (after_back i)) ∙ met));
      })
    where
      before_back : map value (map value_number s.before) ≡ s.before
      before_back = items_back value value_number (λ v. refl) (λ n. refl) no_value s.before

      after_back : map value (map value_number s.after) ≡ s.after
      after_back = items_back value value_number (λ v. refl) (λ n. refl) no_value s.after

      moves_back : map move_number (map number_of_move s.moves) ≡ s.moves
      moves_back = items_back move_number number_of_move (λ m. refl) (λ n. refl) no_move s.moves

  -- the truth values of a witness
  pub record HasValues (system : SystemValue) : Type 0 where
    pub values : List Bool
    pub whole : length values ≡ bool_count plant
    pub satisfied : satisfies values system.set.slots ≡ true
    pub chosen : list_all (lit_holds values) (pair_literals (plant_choices plant) pairs) ≡ true
    pub seen : list_all (lit_holds values) (fact_literals plant facts) ≡ true

  -- a possible partial choice has values that satisfy the clauses and make facts and pairs true
  pub possible_has_values : is_well_formed plant ≡ true → (system : SystemValue) → IsSystemOf plant system → is_possible plant facts pairs ≡ true → HasValues system
  possible_has_values h system is can =
      let w : Witness plant facts pairs = witnessed plant facts pairs can in
      let a : List ValId = map value w.before in
      let b : List ValId = map value w.after in
      let ms : List MoveId = map move_number w.moves in
      let parts = and_parts (extends ms pairs) (is_step plant a b ms && meets_facts plant facts a b) w.step in
      let rest = and_parts (is_step plant a b ms) (meets_facts plant facts a b) parts.1 in
      let whole : IsWholeStep plant a b ms =
      record {
        before = record { whole = length_below value value_number (λ v. refl) (λ n. refl) no_value (sizes plant) w.before w.before_below; in_range = below_at value value_number (λ v. refl) (λ n. refl) no_value (sizes plant) w.before w.before_below };
        after = record { whole = length_below value value_number (λ v. refl) (λ n. refl) no_value (sizes plant) w.after w.after_below; in_range = below_at value value_number (λ v. refl) (λ n. refl) no_value (sizes plant) w.after w.after_below };
        moves = record { whole = length_below move_number number_of_move (λ m. refl) (λ n. refl) no_move (move_counts plant) w.moves w.moves_below; in_range = below_at move_number number_of_move (λ m. refl) (λ n. refl) no_move (move_counts plant) w.moves w.moves_below };
        step = rest.0;
      }
      in
      let model : IsModelOf plant system a b ms (encoded plant a b ms) = step_has_a_model plant h system is a b ms whole in
      record {
        values = encoded plant a b ms;
        whole = model.whole;
        satisfied = model.satisfied;
        chosen = pairs_hold (truth_in (encoded plant a b ms)) (plant_choices plant) ms model.choice pairs have ∙ parts.0;
        seen = facts_hold (truth_in (encoded plant a b ms)) plant facts a b model.now model.next fit ∙ rest.1;
      }
