-- What is found of values that are to test a variable is what the definitions say of them.
use Rattle.std.proofs.Common.{◌≡◌, ℕ, suc, ◌+◌, ◌<◌, ◌≤◌, Bool, true, false, ◌&&◌, not, List, [], ◌∷◌, length, cond, Option, Some, None, slice_get, refl, sym, subst, ap, ◌∙◌, arith}
use Rattle.std.specs.List.{list_all, find, prefix_len}
use Rattle.std.specs.Option.{option_map_or}
use Rattle.std.proofs.lemmas.Bool.{and_from}
use Rattle.lv_base.specs.declared.ids.VarId.{VarId}
use Rattle.lv_base.specs.declared.search.Pair.{Pair}
use Rattle.lv_base.specs.Choices.{pairs_of}
use Rattle.lv_model.specs.declared.plant.Plant.{Plant}
use Rattle.lv_model.specs.declared.state.TrackedState.{TrackedState}
use Rattle.lv_meaning.specs.lv_boxes.Reason.{reduced}
use Rattle.lv_meaning.specs.declared.aim.Aim.{Aim}
use Rattle.lv_meaning.specs.Recovers.{some_nominal_step, meets_goals, reaches}
use Rattle.lv_reconf.specs.declared.judged.Judged.TheVariants.{Recovers, Misses, Stops}
use Rattle.lv_reconf.specs.Tests.{can_step, some_shared, tests, first_stuck, test_reason}
use Rattle.lv_reconf.specs.Testing.{JudgesTest}
use Rattle.lv_reconf.specs.Trying.{reaching_states, looking_at, reaches_at}

one_more : (n : ℕ) → suc n ≡ 1 + n
one_more n = omega arith

module _ {X : Type 0} (p : X → Bool) where
  -- the first item that doesn't pass is at this place
  record StopsAt (xs : List X) (n : ℕ) : Type 0 where
    item : X
    found : find (λ y. not (p y)) xs ≡ Some item
    some : list_all p xs ≡ false
    there : slice_get xs n ≡ Some item

  stops_at : (xs : List X) → prefix_len p xs < length xs → StopsAt xs (prefix_len p xs)
  stops_at [] less = absurd (omega (arith, less))
  stops_at (x ∷ xs) less =
      subst (λ (n : ℕ). StopsAt (x ∷ xs) (cond (p x) n 0)) (one_more (prefix_len p xs))
      (by (p x) refl (subst (λ (n : ℕ). cond (p x) n 0 < suc (length xs)) (sym (one_more (prefix_len p xs))) less) (stops_at xs))
    where
      by : (b : Bool) → p x ≡ b → cond b (suc (prefix_len p xs)) 0 < suc (length xs) → (prefix_len p xs < length xs → StopsAt xs (prefix_len p xs)) → StopsAt (x ∷ xs) (cond b (suc (prefix_len p xs)) 0)
      by false e few rest = record { item = x; found = ap (λ b. cond (not b) (Some x) (find (λ y. not (p y)) xs)) e; some = ap (λ b. b && list_all p xs) e; there = refl }
      by true e few rest =
          let r : StopsAt xs (prefix_len p xs) = rest (omega (arith, few)) in
          record { item = r.item; found = ap (λ b. cond (not b) (Some x) (find (λ y. not (p y)) xs)) e ∙ r.found; some = ap (λ b. b && list_all p xs) e ∙ r.some; there = r.there }

  -- where all at the front pass, and these are all, all pass
  all_front : (xs : List X) → length xs ≤ prefix_len p xs → list_all p xs ≡ true
  all_front [] most = refl
  all_front (x ∷ xs) most = by (p x) refl (subst (λ (n : ℕ). suc (length xs) ≤ cond (p x) n 0) (sym (one_more (prefix_len p xs))) most) (all_front xs)
    where
      by : (b : Bool) → p x ≡ b → suc (length xs) ≤ cond b (suc (prefix_len p xs)) 0 → (length xs ≤ prefix_len p xs → list_all p xs ≡ true) → list_all p (x ∷ xs) ≡ true
      by false e few rest = absurd (omega (arith, few))
      by true e few rest = and_from (p x) (list_all p xs) e (rest (omega (arith, few)))

  none_fails : (xs : List X) → list_all p xs ≡ true → find (λ y. not (p y)) xs ≡ None
  none_fails [] all = refl
  none_fails (x ∷ xs) all = by (p x) refl all (none_fails xs)
    where
      by : (b : Bool) → p x ≡ b → (b && list_all p xs) ≡ true → (list_all p xs ≡ true → find (λ y. not (p y)) xs ≡ None) → find (λ y. not (p y)) (x ∷ xs) ≡ None
      by false e h rest = absurd (cc h)
      by true e h rest = ap (λ b. cond (not b) (Some x) (find (λ y. not (p y)) xs)) e ∙ rest h

module _ (plant : Plant) (aim : Aim) (x : VarId) (u : List ℕ) (none : aim.goals ≡ []) where
  abbrev steps : TrackedState → Bool
  steps s = can_step plant aim (pairs_of u) s

  -- where nothing is asked of goals, they are reached by any step
  step_is : (λ (s : TrackedState). reaches plant aim s.state (pairs_of u)) ≡ steps
  step_is = λ i. λ s. some_nominal_step plant aim.present s.state (pairs_of u) (meets_goals (none i))

  module _ (pairs : List Pair) (are : pairs ≡ pairs_of u) (count : ℕ) (counted : count ≡ reaching_states plant aim pairs) where
    count_is : count ≡ prefix_len steps aim.tracked
    count_is = counted ∙ ap (reaching_states plant aim) are ∙ ap (λ (p : TrackedState → Bool). prefix_len p aim.tracked) step_is

    pub test_stops : count < length aim.tracked → JudgesTest plant aim x u (Stops count)
    test_stops less =
        let f : StopsAt steps aim.tracked (prefix_len steps aim.tracked) = stops_at steps aim.tracked (subst (λ n. n < length aim.tracked) count_is less) in
        let there : slice_get aim.tracked count ≡ Some f.item = ap (slice_get aim.tracked) count_is ∙ f.there in
        let looked : (λ (ps : List Pair). can_step plant aim ps f.item) ≡ reaches_at (looking_at plant aim count) =
        sym ((λ i. λ ps. option_map_or (λ (s : TrackedState). reaches plant aim s.state ps) (there i) false) ∙ (λ i. λ ps. some_nominal_step plant aim.present f.item.state ps (meets_goals (none i))))
        in (
          ap (λ b. b && not (some_shared plant aim x (pairs_of u))) f.some,
          ap (λ (o : Option TrackedState). option_map_or (λ (s : TrackedState). reduced (λ (ps : List Pair). can_step plant aim ps s) [] (pairs_of u)) o (pairs_of u)) f.found
              ∙ ap (λ (test : List Pair → Bool). reduced test [] (pairs_of u)) looked,
        )

    all_step : length aim.tracked ≤ count → list_all steps aim.tracked ≡ true
    all_step most = all_front steps aim.tracked (subst (λ n. length aim.tracked ≤ n) count_is most)

    pub test_shares : length aim.tracked ≤ count → some_shared plant aim x pairs ≡ true → JudgesTest plant aim x u Misses
    test_shares most shared =
        let all = all_step most in
        let shares : some_shared plant aim x (pairs_of u) ≡ true = sym (ap (some_shared plant aim x) are) ∙ shared in
        let fails : tests plant aim x u ≡ false = (λ i. list_all steps aim.tracked && not (shares i)) ∙ with_false (list_all steps aim.tracked) in
        (fails, ap (λ (o : Option TrackedState). option_map_or (λ (s : TrackedState). reduced (λ (ps : List Pair). can_step plant aim ps s) [] (pairs_of u)) o (pairs_of u)) (none_fails steps aim.tracked all))
      where
        with_false : (b : Bool) → (b && false) ≡ false
        with_false true = refl
        with_false false = refl

    pub test_passes : length aim.tracked ≤ count → some_shared plant aim x pairs ≡ false → JudgesTest plant aim x u Recovers
    test_passes most shared =
        and_from (list_all steps aim.tracked) (not (some_shared plant aim x (pairs_of u))) (all_step most) (ap not (sym (ap (some_shared plant aim x) are) ∙ shared))
