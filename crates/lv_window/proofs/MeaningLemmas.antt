-- What is possible over the steps of a window is what the clauses of its system and what is known decide.
use Rattle.std.proofs.Common.{◌≡◌, ℕ, ◌+◌, ◌≤◌, Bool, true, ◌&&◌, List, [], ◌∷◌, ◌++◌, length, map, refl, sym, subst, ap, ap₂, ◌∙◌, arith, All}
use Rattle.std.specs.List.{list_all, sum}
use Rattle.std.proofs.lemmas.Bool.{and_parts, and_from}
use Rattle.std.proofs.lemmas.List.Elements.{All-tail}
use Rattle.std.proofs.lemmas.List.Folds.{list_all-append}
use Rattle.lv_base.specs.declared.ids.Lit.{Lit}
use Rattle.lv_base.specs.declared.ids.ValId.{ValId}
use Rattle.lv_base.specs.declared.ids.MoveId.{MoveId}
use Rattle.lv_base.specs.declared.search.Pair.{Pair}
use Rattle.lv_clauses.specs.Literals.{lit_holds}
use Rattle.lv_model.specs.declared.plant.Plant.{Plant}
use Rattle.lv_model.specs.Lists.{sizes, move_counts}
use Rattle.lv_model.specs.WellFormed.{is_well_formed}
use Rattle.lv_compile.specs.Booleans.{booleans_from}
use Rattle.lv_compile.specs.Laws.{literal_is_true, Encode, EncodeMoves}
use Rattle.lv_compile.specs.Windows.{window_choice, window_bools}
use Rattle.lv_compile.specs.WindowLaws.{Further, all_moves, counts_of, LeadOn, EncodeOn, IsEncodedWindow}
use Rattle.lv_system.specs.Choices.{Choices}
use Rattle.lv_system.specs.Encoding.{truth_in}
use Rattle.lv_system.specs.Laws.{IsAssignment}
use Rattle.lv_system.specs.Windows.{WindowValue, window_choices, AreWhole, encoded_window, IsWindowOf, IsModelOfWindow}
use Rattle.lv_system.proofs.WindowLemmas.{model_is_a_window, window_has_a_model}
use Rattle.lv_meaning.specs.declared.facts.Facts.{Facts}
use Rattle.lv_meaning.specs.Facts.{now_facts, meets_facts}
use Rattle.lv_meaning.specs.Possible.{value, move_number, extends}
use Rattle.lv_asking.specs.Literals.{observed_literals, pair_literals, HasMove, IsOnce}
use Rattle.lv_asking.specs.Refutation.{HasModel}
use Rattle.lv_asking.specs.Asking.{Decides}
use Rattle.lv_asking.proofs.HoldLemmas.{observed_hold, pairs_hold}
use Rattle.lv_asking.proofs.NumberLemmas.{items_back, all_below, length_below, below_at, value_number, number_of_move, no_value, no_move}
use Rattle.lv_window.specs.Possible.{leads, is_possible_over}
use Rattle.lv_window.specs.Lawful.{WindowWitness, witnessed_over, possible_over, part_over}
use Rattle.lv_window.specs.Known.{StepFits, step_literals, window_literals}
use Rattle.lv_window.proofs.PathLemmas.{meet_on, path_leads, Path, path_of, path_feasible}

module _ (plant : Plant) (truth : ℕ → Bool) where
  step_holds : (first : ℕ) (f : Facts) (a b : List ValId) → Encode truth (booleans_from plant first) a → Encode truth (booleans_from plant (first + sum (sizes plant))) b → StepFits plant f
      → list_all (literal_is_true truth) (step_literals plant first f) ≡ meets_facts plant f a b
  step_holds first f a b here there fits =
      list_all-append (literal_is_true truth) (observed_literals (booleans_from plant first) (now_facts plant f)) (observed_literals (booleans_from plant (first + sum (sizes plant))) f.next)
      ∙ ap₂ (λ (p q : Bool). p && q) (observed_hold truth (booleans_from plant first) a here (now_facts plant f) fits.in_range.now)
      (observed_hold truth (booleans_from plant (first + sum (sizes plant))) b there f.next fits.in_range.next)

  -- what is known is true exactly where the assignments meet it
  known_holds : (steps : List Facts) (first choice : ℕ) (a : List ValId) (on : List Further) → length on ≡ length steps → Encode truth (booleans_from plant first) a → EncodeOn plant truth first choice on
      → All (StepFits plant) steps → list_all (literal_is_true truth) (window_literals plant first steps) ≡ meet_on plant steps a on
  known_holds [] first choice a on many here further fits = refl
  known_holds (f ∷ fs) first choice a [] many here further fits = absurd (omega (arith, many))
  known_holds (f ∷ fs) first choice a (x ∷ xs) many here further fits =
      list_all-append (literal_is_true truth) (step_literals plant first f) (window_literals plant (first + sum (sizes plant)) fs)
      ∙ ap₂ (λ (p q : Bool). p && q) (step_holds first f a x.after here further.0 (fits 0 f (omega arith)))
      (known_holds fs (first + sum (sizes plant)) (choice + sum (move_counts plant)) x.after xs (omega (arith, many)) further.0 further.2 (All-tail (StepFits plant) f fs fits))

  -- what encodes the steps encodes whole ones
  whole_on : (first choice : ℕ) (a : List ValId) (on : List Further) → LeadOn plant a on → EncodeOn plant truth first choice on → AreWhole plant on
  whole_on first choice a [] lead further = tt
  whole_on first choice a (x ∷ xs) lead further = (
    record { whole = lead.0.whole; in_range = further.0.in_range },
    record { whole = further.1.each; in_range = further.1.in_range },
    whole_on (first + sum (sizes plant)) (choice + sum (move_counts plant)) x.after xs lead.1 further.2,
  )

module _ (plant : Plant) (h : is_well_formed plant ≡ true) (steps : List Facts) (some : 1 ≤ length steps) (fits : All (StepFits plant) steps) (s : WindowValue) (is : IsWindowOf plant (length steps) s)
    (n : ℕ) (assumed : List Lit) (once : IsOnce n (window_literals plant 0 steps) assumed) where
  abbrev counts : List ℕ
  counts = counts_of plant (length steps)

  abbrev own : Choices
  own = window_choices plant (length steps)

  own_counts : counts ≡ s.choices.counts
  own_counts = sym (ap (λ (c : Choices). c.counts) is.choices)

  -- values that satisfy the clauses and make what is known and the pairs true are steps that have the pairs
  values_possible : (pairs : List Pair) → All (HasMove s.choices.counts) pairs → HasModel s.set (pair_literals s.choices pairs ++ assumed) → is_possible_over plant steps pairs ≡ true
  values_possible pairs have m =
      let values : List Bool = m.values in
      let truth : ℕ → Bool = truth_in values in
      let w : IsEncodedWindow plant (length steps) truth = model_is_a_window plant h (length steps) s is values m.model.all_clauses in
      let both =
      and_parts (list_all (lit_holds values) (pair_literals s.choices pairs)) (list_all (lit_holds values) assumed)
      (sym (list_all-append (lit_holds values) (pair_literals s.choices pairs) assumed) ∙ m.model.all_assumptions)
      in
      let has : extends (all_moves w.on) pairs ≡ true =
      sym (pairs_hold truth own (all_moves w.on) w.choices pairs (subst (λ (c : Choices). All (HasMove c.counts) pairs) is.choices have))
      ∙ ap (λ (c : Choices). list_all (lit_holds values) (pair_literals c pairs)) (sym is.choices) ∙ both.0
      in
      let met : meet_on plant steps w.start w.on ≡ true =
      sym (known_holds plant truth steps 0 (window_choice plant (length steps)) w.start w.on w.many w.now w.further fits) ∙ sym (once.says values) ∙ both.1
      in
      let lead : leads plant steps (all_moves w.on) w.start ≡ true =
      path_leads plant steps w.start w.on w.many w.lead (whole_on plant truth 0 (window_choice plant (length steps)) w.start w.on w.lead w.further) met
      in
      let moves_back : map move_number (map number_of_move (all_moves w.on)) ≡ all_moves w.on = items_back move_number number_of_move (λ m. refl) (λ n. refl) no_move (all_moves w.on) in
      let start_back : map value (map value_number w.start) ≡ w.start = items_back value value_number (λ v. refl) (λ n. refl) no_value w.start in
      possible_over plant steps pairs
      (record {
        moves = map number_of_move (all_moves w.on);
        start = map value_number w.start;
        moves_below = all_below move_number number_of_move (λ m. refl) (λ n. refl) no_move counts (all_moves w.on) w.choices.each w.choices.in_range;
        start_below = all_below value value_number (λ v. refl) (λ n. refl) no_value (sizes plant) w.start w.whole w.now.in_range;
        has = ap (λ (ms : List MoveId). extends ms pairs) moves_back ∙ has;
        lead = (λ i. leads plant steps (moves_back i) (start_back i)) ∙ lead;
      })

  -- a possible partial choice has such values
  possible_values : (pairs : List Pair) → All (HasMove s.choices.counts) pairs → is_possible_over plant steps pairs ≡ true → HasModel s.set (pair_literals s.choices pairs ++ assumed)
  possible_values pairs have can =
      let w : WindowWitness plant steps pairs = witnessed_over plant steps pairs can in
      let start : List ValId = map value w.start in
      let path : Path plant steps start (map move_number w.moves) = path_of plant steps w.moves start w.moves_below w.lead in
      let feasible = path_feasible plant steps start (map move_number w.moves) some path in
      let at_start : IsAssignment (sizes plant) start =
      record {
        whole = length_below value value_number (λ v. refl) (λ n. refl) no_value (sizes plant) w.start w.start_below;
        in_range = below_at value value_number (λ v. refl) (λ n. refl) no_value (sizes plant) w.start w.start_below;
      }
      in
      let values : List Bool = encoded_window plant start path.on in
      let truth : ℕ → Bool = truth_in values in
      let model : IsModelOfWindow plant s start path.on values =
      window_has_a_model plant h start path.on at_start path.whole s (subst (λ (k : ℕ). IsWindowOf plant k s) (sym path.many) is) feasible path.lead
      in
      let choices : EncodeMoves truth (window_choice plant (length steps)) counts (all_moves path.on) =
      subst (λ (k : ℕ). EncodeMoves truth (window_choice plant k) (counts_of plant k) (all_moves path.on)) path.many model.choices
      in
      let further = model.further in
      let chosen : list_all (lit_holds values) (pair_literals s.choices pairs) ≡ true =
      ap (λ (c : Choices). list_all (lit_holds values) (pair_literals c pairs)) is.choices
      ∙ pairs_hold truth own (all_moves path.on) choices pairs (subst (λ (c : Choices). All (HasMove c.counts) pairs) is.choices have)
      ∙ ap (λ (ms : List MoveId). extends ms pairs) path.moves_are
      ∙ w.has
      in
      let seen : list_all (lit_holds values) assumed ≡ true =
      once.says values ∙ known_holds plant truth steps 0 (window_choice plant (length path.on)) start path.on path.many model.now further fits ∙ path.met
      in
      record {
        values = values;
        model = record {
          len = model.whole ∙ ap (window_bools plant) path.many ∙ sym is.bools;
          all_clauses = model.satisfied;
          all_assumptions =
              list_all-append (lit_holds values) (pair_literals s.choices pairs) assumed
              ∙ and_from (list_all (lit_holds values) (pair_literals s.choices pairs)) (list_all (lit_holds values) assumed) chosen seen;
        };
      }

  pub window_decides : Decides (record { set = s.set; choices = s.choices; assumed = assumed }) (is_possible_over plant steps)
  window_decides = record { possible_of = values_possible; model_of = possible_values; part = λ part whole inside can. part_over plant steps part whole inside can }
