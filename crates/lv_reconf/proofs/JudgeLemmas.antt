-- What is found of values that are tried is what the definitions say of them.
use Rattle.std.proofs.Common.{◌≡◌, ℕ, suc, ◌+◌, ◌<◌, ◌≤◌, ◌^◌, Bool, true, false, ◌&&◌, ◌||◌, not, nat_lt, List, [], ◌∷◌, length, take, cond, Option, Some, slice_get, slice_index_or, refl, sym, subst, ap, ◌∙◌, arith}
use Rattle.std.specs.List.{list_all, list_any, find, prefix_len}
use Rattle.std.specs.Option.{option_map_or}
use Rattle.std.specs.Cmp.Lexicographic.{pointwise}
use Rattle.std.proofs.lemmas.Bool.{and_from, and_parts}
use Rattle.std.proofs.lemmas.List.{length-map}
use Rattle.std.proofs.lemmas.List.Sums.{prefix_len-le-length}
use Rattle.lv_base.specs.declared.search.Pair.{Pair}
use Rattle.lv_base.specs.declared.ids.VarId.{VarId}
use Rattle.lv_base.specs.Choices.{pairs_from, pairs_of}
use Rattle.lv_model.specs.declared.plant.Plant.{Plant}
use Rattle.lv_model.specs.declared.state.TrackedState.{TrackedState}
use Rattle.lv_model.specs.Lists.{sizes, controls}
use Rattle.lv_meaning.specs.lv_boxes.Reason.{reduced}
use Rattle.lv_meaning.specs.declared.aim.Aim.{Aim}
use Rattle.lv_meaning.specs.Recovers.{reaches, can_miss}
use Rattle.lv_meaning.specs.Commands.{control_sizes, is_command_set}
use Rattle.lv_meaning.specs.Recovery.{reason_from, command_reason}
use Rattle.lv_reconf.specs.declared.judged.Judged.TheVariants.{Recovers, Misses, Stops}
use Rattle.lv_reconf.specs.Assuming.{pairs_fit}
use Rattle.lv_reconf.specs.Judging.{Judges}
use Rattle.lv_reconf.specs.Trying.{reaching_states, some_can_miss, looking_at, reaches_at}

one_more : (n : ℕ) → suc n ≡ 1 + n
one_more n = omega arith

-- items that pass a test and don't fail another
module _ {X : Type 0} (p m : X → Bool) where
  abbrev sure : X → Bool
  sure x = p x && not (m x)

  -- it is the first item that isn't sure
  record IsFirst (xs : List X) (x : X) : Type 0 where
    found : find (λ y. not (sure y)) xs ≡ Some x
    some : list_all sure xs ≡ false

  record FirstFailing (xs : List X) : Type 0 where
    item : X
    first : IsFirst xs item
    passes : p item ≡ true

  record FirstStopping (xs : List X) (at : ℕ) : Type 0 where
    item : X
    first : IsFirst xs item
    stops : p item ≡ false
    there : slice_get xs at ≡ Some item

  behind : (x y : X) (xs : List X) → sure x ≡ true → IsFirst xs y → IsFirst (x ∷ xs) y
  behind x y xs is f =
      record {
        found = ap (λ b. cond (not b) (Some x) (find (λ z. not (sure z)) xs)) is ∙ f.found;
        some = ap (λ b. b && list_all sure xs) is ∙ f.some;
      }

  here : (x : X) (xs : List X) → sure x ≡ false → IsFirst (x ∷ xs) x
  here x xs is =
      record {
        found = ap (λ b. cond (not b) (Some x) (find (λ z. not (sure z)) xs)) is;
        some = ap (λ b. b && list_all sure xs) is;
      }

  -- where one of the first that pass fails, the first that isn't sure passes
  first_failing : (xs : List X) → list_any m (take (prefix_len p xs) xs) ≡ true → FirstFailing xs
  first_failing [] h = absurd (cc h)
  first_failing (x ∷ xs) h = by (p x) (m x) refl refl (ap (λ (n : ℕ). list_any m (take (cond (p x) n 0) (x ∷ xs))) (one_more (prefix_len p xs)) ∙ h) (first_failing xs)
    where
      by : (b d : Bool) → p x ≡ b → m x ≡ d → list_any m (take (cond b (suc (prefix_len p xs)) 0) (x ∷ xs)) ≡ true → (list_any m (take (prefix_len p xs) xs) ≡ true → FirstFailing xs) → FirstFailing (x ∷ xs)
      by false d e f any rest = absurd (cc any)
      by true true e f any rest = record { item = x; first = here x xs (ap (λ c. c && not (m x)) e ∙ ap not f); passes = e }
      by true false e f any rest =
          let r : FirstFailing xs = rest (sym (ap (λ c. c || list_any m (take (prefix_len p xs) xs)) f) ∙ any) in
          record { item = r.item; first = behind x r.item xs (ap (λ c. c && not (m x)) e ∙ ap not f) r.first; passes = r.passes }

  -- where none of them fails, it is the one behind them
  first_stopping : (xs : List X) → list_any m (take (prefix_len p xs) xs) ≡ false → prefix_len p xs < length xs → FirstStopping xs (prefix_len p xs)
  first_stopping [] h less = absurd (omega (arith, less))
  first_stopping (x ∷ xs) h less =
      subst (λ (n : ℕ). FirstStopping (x ∷ xs) (cond (p x) n 0)) (one_more (prefix_len p xs))
      (by (p x) (m x) refl refl (ap (λ (n : ℕ). list_any m (take (cond (p x) n 0) (x ∷ xs))) (one_more (prefix_len p xs)) ∙ h)
      (subst (λ (n : ℕ). cond (p x) n 0 < suc (length xs)) (sym (one_more (prefix_len p xs))) less) (first_stopping xs))
    where
      by : (b d : Bool) → p x ≡ b → m x ≡ d → list_any m (take (cond b (suc (prefix_len p xs)) 0) (x ∷ xs)) ≡ false → cond b (suc (prefix_len p xs)) 0 < suc (length xs)
          → (list_any m (take (prefix_len p xs) xs) ≡ false → prefix_len p xs < length xs → FirstStopping xs (prefix_len p xs)) → FirstStopping (x ∷ xs) (cond b (suc (prefix_len p xs)) 0)
      by false d e f any few rest = record { item = x; first = here x xs (ap (λ c. c && not (m x)) e); stops = e; there = refl }
      by true true e f any few rest = let clash : true ≡ false = sym (ap (λ c. c || list_any m (take (prefix_len p xs) xs)) f) ∙ any in absurd (cc clash)
      by true false e f any few rest =
          let r : FirstStopping xs (prefix_len p xs) = rest (sym (ap (λ c. c || list_any m (take (prefix_len p xs) xs)) f) ∙ any) (omega (arith, few)) in
          record { item = r.item; first = behind x r.item xs (ap (λ c. c && not (m x)) e ∙ ap not f) r.first; stops = r.stops; there = r.there }

  -- and where all pass, all are sure
  all_sure : (xs : List X) → list_any m (take (prefix_len p xs) xs) ≡ false → prefix_len p xs ≡ length xs → list_all sure xs ≡ true
  all_sure [] h long = refl
  all_sure (x ∷ xs) h long =
      by (p x) (m x) refl refl (ap (λ (n : ℕ). list_any m (take (cond (p x) n 0) (x ∷ xs))) (one_more (prefix_len p xs)) ∙ h)
      (ap (λ (n : ℕ). cond (p x) n 0) (one_more (prefix_len p xs)) ∙ long) (all_sure xs)
    where
      by : (b d : Bool) → p x ≡ b → m x ≡ d → list_any m (take (cond b (suc (prefix_len p xs)) 0) (x ∷ xs)) ≡ false → cond b (suc (prefix_len p xs)) 0 ≡ suc (length xs)
          → (list_any m (take (prefix_len p xs) xs) ≡ false → prefix_len p xs ≡ length xs → list_all sure xs ≡ true) → list_all sure (x ∷ xs) ≡ true
      by false d e f any all rest = absurd (omega (arith, all))
      by true true e f any all rest = let clash : true ≡ false = sym (ap (λ c. c || list_any m (take (prefix_len p xs) xs)) f) ∙ any in absurd (cc clash)
      by true false e f any all rest =
          and_from (sure x) (list_all sure xs) (ap (λ c. c && not (m x)) e ∙ ap not f) (rest (sym (ap (λ c. c || list_any m (take (prefix_len p xs) xs)) f) ∙ any) (omega (arith, all)))

module _ (plant : Plant) (aim : Aim) (u : List ℕ) where
  abbrev reaching : TrackedState → Bool
  reaching s = reaches plant aim s.state (pairs_of u)

  abbrev missing : TrackedState → Bool
  missing s = can_miss plant aim s.state (pairs_of u)

  reason_is : (s : TrackedState) → IsFirst reaching missing aim.tracked s → command_reason plant aim u ≡ reason_from plant aim u s.state
  reason_is s f = ap (λ (o : Option TrackedState). option_map_or (λ (s : TrackedState). reason_from plant aim u s.state) o []) f.found

  module _ (pairs : List Pair) (are : pairs ≡ pairs_of u) (count : ℕ) (counted : count ≡ reaching_states plant aim pairs) where
    count_is : count ≡ prefix_len reaching aim.tracked
    count_is = counted ∙ ap (reaching_states plant aim) are

    missed_is : (b : Bool) → b ≡ some_can_miss plant aim count pairs → list_any missing (take (prefix_len reaching aim.tracked) aim.tracked) ≡ b
    missed_is b is = sym (is ∙ (λ i. some_can_miss plant aim (count_is i) (are i)))

    pub judged_misses : some_can_miss plant aim count pairs ≡ true → Judges plant aim u Misses
    judged_misses misses =
        let f : FirstFailing reaching missing aim.tracked = first_failing reaching missing aim.tracked (missed_is true (sym misses)) in
        (f.first.some, reason_is f.item f.first ∙ ap (λ b. cond b (pairs_of u) (reduced (reaches plant aim f.item.state) [] (pairs_of u))) f.passes)

    pub judged_recovers : some_can_miss plant aim count pairs ≡ false → count ≡ length aim.tracked → Judges plant aim u Recovers
    judged_recovers never all = all_sure reaching missing aim.tracked (missed_is false (sym never)) (sym count_is ∙ all)

    pub judged_stops : some_can_miss plant aim count pairs ≡ false → count < length aim.tracked → Judges plant aim u (Stops count)
    judged_stops never less =
        let f : FirstStopping reaching missing aim.tracked (prefix_len reaching aim.tracked) =
        first_stopping reaching missing aim.tracked (missed_is false (sym never)) (subst (λ n. n < length aim.tracked) count_is less)
        in
        let there : slice_get aim.tracked count ≡ Some f.item = ap (slice_get aim.tracked) count_is ∙ f.there in
        let looked : reaches plant aim f.item.state ≡ reaches_at (looking_at plant aim count) =
        ap (λ (o : Option TrackedState). λ (ps : List Pair). option_map_or (λ (s : TrackedState). reaches plant aim s.state ps) o false) (sym there)
        in (
          f.first.some,
          reason_is f.item f.first ∙ ap (λ b. cond b (pairs_of u) (reduced (reaches plant aim f.item.state) [] (pairs_of u))) f.stops
              ∙ ap (λ (test : List Pair → Bool). reduced test [] (pairs_of u)) looked,
        )

pub count_within : (plant : Plant) (aim : Aim) (pairs : List Pair) (count : ℕ) → count ≡ reaching_states plant aim pairs → count ≤ length aim.tracked
count_within plant aim pairs count counted =
    subst (λ n. n ≤ length aim.tracked) (sym counted) (prefix_len-le-length (λ (s : TrackedState). reaches plant aim s.state pairs) aim.tracked)

-- the values of a command set are values of their controls, and no more than there are controls
set_length : (us ns : List ℕ) → pointwise nat_lt us ns ≡ true → length us ≡ length ns
set_length [] [] h = refl
set_length [] (n ∷ ns) h = absurd (cc h)
set_length (u ∷ us) [] h = absurd (cc h)
set_length (u ∷ us) (n ∷ ns) h = ap suc (set_length us ns ((and_parts (nat_lt u n) (pointwise nat_lt us ns) h).1))

set_fits : (bounds : List ℕ) (slot : ℕ) (us ns : List ℕ) → ((k : ℕ) → slice_index_or bounds (slot + k) 0 ≡ slice_index_or ns k 0) → pointwise nat_lt us ns ≡ true
    → list_all (λ (p : Pair). nat_lt p.choice (slice_index_or bounds p.slot 0)) (pairs_from slot us) ≡ true
set_fits bounds slot [] ns at h = refl
set_fits bounds slot (u ∷ us) [] at h = absurd (cc h)
set_fits bounds slot (u ∷ us) (n ∷ ns) at h =
    let two = and_parts (nat_lt u n) (pointwise nat_lt us ns) h in
    let same : slot + 0 ≡ slot = omega arith in
    let here : slice_index_or bounds slot 0 ≡ n = sym (ap (λ k. slice_index_or bounds k 0) same) ∙ at 0 in
    and_from (nat_lt u (slice_index_or bounds slot 0)) (list_all (λ (p : Pair). nat_lt p.choice (slice_index_or bounds p.slot 0)) (pairs_from (slot + 1) us))
    (ap (nat_lt u) here ∙ two.0)
    (set_fits bounds (slot + 1) us ns (λ k. let next : slot + 1 + k ≡ slot + suc k = omega arith in ap (λ j. slice_index_or bounds j 0) next ∙ at (suc k)) two.1)

pub values_fit : (plant : Plant) (u : List ℕ) → is_command_set plant u ≡ true → pairs_fit plant (pairs_of u) ≡ true
values_fit plant u is = set_fits (control_sizes plant) 0 u (control_sizes plant) (λ k. let same : 0 + k ≡ k = omega arith in ap (λ j. slice_index_or (control_sizes plant) j 0) same) is

pub few_values : (plant : Plant) (u : List ℕ) → is_command_set plant u ≡ true → length (controls plant) ≤ 4096 → length u < 2 ^ 32
few_values plant u is few =
    let long : length u ≡ length (control_sizes plant) = set_length u (control_sizes plant) is in
    let counted : length (control_sizes plant) ≡ length (controls plant) = length-map (controls plant) (λ (c : VarId). slice_index_or (sizes plant) c.0 0) in
    omega (arith, long, counted, few)
