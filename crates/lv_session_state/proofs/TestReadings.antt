-- A command set tests a variable exactly where it tells any two of the tracked states apart.
use Rattle.std.proofs.Common.{◌≡◌, ℕ, zero, suc, ◌<◌, Bool, true, false, ◌&&◌, ◌||◌, not, nat_eq, nat_lt, slice_index_or, slice_get, Some, List, [], ◌∷◌, length, map, refl, sym, subst, ◌∙◌, ap, arith}
use Rattle.std.specs.List.{list_all, list_any}
use Rattle.std.proofs.lemmas.Bool.{and_parts, and_from, eqb-true, eq-eqb, ltb-true, lt-ltb}
use Rattle.lv_base.specs.declared.ids.VarId.{VarId}
use Rattle.lv_base.specs.Choices.{pairs_of}
use Rattle.lv_base.specs.Tree.{number_of}
use Rattle.lv_model.specs.declared.plant.Plant.{Plant}
use Rattle.lv_model.specs.declared.state.TrackedState.{TrackedState}
use Rattle.lv_model.specs.Lists.{sizes, variable_count}
use Rattle.lv_model.proofs.Sizes.{length-sizes}
use Rattle.lv_meaning.specs.declared.aim.Aim.{Aim}
use Rattle.lv_meaning.specs.Possible.{value}
use Rattle.lv_meaning.specs.PossibleLaws.{are_below}
use Rattle.lv_meaning.specs.RecoveryLaws.{NominalStep}
use Rattle.lv_meaning.proofs.Among.{among, contained, all_among}
use Rattle.lv_meaning.proofs.NominalSteps.{StepFound, step_found, found_step, each_passes}
use Rattle.lv_meaning.proofs.SomeList.{Found, below_found, found_below}
use Rattle.lv_reconf.specs.Tests.{can_step, can_show, two_pass, some_shared, tests}
use Rattle.lv_session_state.specs.TestLaws.{Tests}

module _ {X : Type 0} (p : X → Bool) where
  -- an item that passes, at its place
  record Passing (xs : List X) : Type 0 where
    place : ℕ
    item : X
    there : slice_get xs place ≡ Some item
    passes : p item ≡ true

  some_passing : (xs : List X) → list_any p xs ≡ true → Passing xs
  some_passing [] h = absurd (cc h)
  some_passing (x ∷ xs) h = by (p x) refl h (some_passing xs)
    where
      by : (b : Bool) → p x ≡ b → (b || list_any p xs) ≡ true → (list_any p xs ≡ true → Passing xs) → Passing (x ∷ xs)
      by true e h rest = record { place = 0; item = x; there = refl; passes = e }
      by false e h rest = let f : Passing xs = rest h in record { place = suc f.place; item = f.item; there = f.there; passes = f.passes }

  passing_some : (xs : List X) (k : ℕ) (x : X) → slice_get xs k ≡ Some x → p x ≡ true → list_any p xs ≡ true
  passing_some [] k x there passes = absurd (cc there)
  passing_some (y ∷ ys) zero x there passes =
      let same : y ≡ x = cc there in
      ap (λ (b : Bool). b || list_any p ys) (ap p same ∙ passes)
  passing_some (y ∷ ys) (suc k) x there passes = by (p y) (passing_some ys k x there passes)
    where
      by : (b : Bool) → list_any p ys ≡ true → (b || list_any p ys) ≡ true
      by true h = refl
      by false h = h

  -- two items that pass, at their places
  record PassingTwo (xs : List X) : Type 0 where
    first : ℕ
    second : ℕ
    one : X
    other : X
    less : first < second
    one_there : slice_get xs first ≡ Some one
    other_there : slice_get xs second ≡ Some other
    one_passes : p one ≡ true
    other_passes : p other ≡ true

  two_passing : (xs : List X) → two_pass p xs ≡ true → PassingTwo xs
  two_passing [] h = absurd (cc h)
  two_passing (x ∷ xs) h = by (p x) (list_any p xs) refl refl h (two_passing xs)
    where
      by : (a b : Bool) → p x ≡ a → list_any p xs ≡ b → ((a && b) || two_pass p xs) ≡ true → (two_pass p xs ≡ true → PassingTwo xs) → PassingTwo (x ∷ xs)
      by true true e f h rest =
          let later : Passing xs = some_passing xs f in
          record { first = 0; second = suc later.place; one = x; other = later.item; less = omega arith; one_there = refl; other_there = later.there; one_passes = e; other_passes = later.passes }
      by true false e f h rest = behind (rest h)
        where
          behind : PassingTwo xs → PassingTwo (x ∷ xs)
          behind t = record { first = suc t.first; second = suc t.second; one = t.one; other = t.other; less = (let less = t.less in omega (arith, less)); one_there = t.one_there; other_there = t.other_there; one_passes = t.one_passes; other_passes = t.other_passes }
      by false b e f h rest =
          let t : PassingTwo xs = rest h in
          record { first = suc t.first; second = suc t.second; one = t.one; other = t.other; less = (let less = t.less in omega (arith, less)); one_there = t.one_there; other_there = t.other_there; one_passes = t.one_passes; other_passes = t.other_passes }

  passing_two : (xs : List X) (i j : ℕ) (x y : X) → i < j → slice_get xs i ≡ Some x → slice_get xs j ≡ Some y → p x ≡ true → p y ≡ true → two_pass p xs ≡ true
  passing_two [] i j x y less at_i at_j one other = absurd (cc at_i)
  passing_two (z ∷ zs) i zero x y less at_i at_j one other = absurd (omega (arith, less))
  passing_two (z ∷ zs) zero (suc j) x y less at_i at_j one other =
      let same : z ≡ x = cc at_i in
      let any : list_any p zs ≡ true = passing_some zs j y at_j other in
      ap (λ (b : Bool). (b && list_any p zs) || two_pass p zs) (ap p same ∙ one) ∙ ap (λ (b : Bool). b || two_pass p zs) any
  passing_two (z ∷ zs) (suc i) (suc j) x y less at_i at_j one other = by (p z && list_any p zs) (passing_two zs i j x y (omega (arith, less)) at_i at_j one other)
    where
      by : (b : Bool) → two_pass p zs ≡ true → (b || two_pass p zs) ≡ true
      by true h = refl
      by false h = h

-- what isn't passed by any is denied, and the other way round
denied : (b : Bool) → not b ≡ true → b ≡ false
denied true h = absurd (cc h)
denied false h = refl

denial : (b : Bool) → (b ≡ true → ⊥) → not b ≡ true
denial true never = absurd (never refl)
denial false never = refl

-- numbers that are below their sizes are so at each place
number_below : (ns xs : List ℕ) → are_below ns xs ≡ true → (x : ℕ) → x < length ns → number_of (map value xs) x < slice_index_or ns x 0
number_below [] xs h x there = absurd (omega (arith, there))
number_below (n ∷ ns) [] h x there = absurd (cc h)
number_below (n ∷ ns) (v ∷ vs) h zero there = ltb-true v n (and_parts (nat_lt v n) (are_below ns vs) h).0
number_below (n ∷ ns) (v ∷ vs) h (suc x) there = number_below ns vs (and_parts (nat_lt v n) (are_below ns vs) h).1 x (omega (arith, there))

module _ (plant : Plant) (aim : Aim) (x : VarId) (u : List ℕ) where
  abbrev steps : TrackedState → Bool
  steps s = can_step plant aim (pairs_of u) s

  abbrev shows : ℕ → TrackedState → Bool
  shows v s = can_show plant aim x (pairs_of u) v s

  shown : (v : ℕ) (s : TrackedState) (w : NominalStep plant aim.present s.state (pairs_of u)) → number_of (map value w.after) x.0 ≡ v → shows v s ≡ true
  shown v s w is =
      found_step plant aim.present s.state (pairs_of u) (λ b. nat_eq (number_of b x.0) v) w (eq-eqb (number_of (map value w.after) x.0) v is)

  pub tests_tell : x.0 < variable_count plant → tests plant aim x u ≡ true → Tests plant aim x u
  tests_tell there h = record {
    step = λ s in_tracked.
        (step_found plant aim.present s.state (pairs_of u) (λ b. true) (all_among steps aim.tracked s halves.0 (among aim.tracked s in_tracked))).step;
    apart = λ i j s t less at_i at_j one other same.
        let seen : ℕ = number_of (map value other.after) x.0 in
        let twice : two_pass (shows seen) aim.tracked ≡ true = passing_two (shows seen) aim.tracked i j s t less at_i at_j (shown seen s one same) (shown seen t other refl) in
        let below : nat_lt seen (slice_index_or (sizes plant) x.0 0) ≡ true =
        lt-ltb seen (slice_index_or (sizes plant) x.0 0) (number_below (sizes plant) other.after other.after_below x.0 (subst (λ n. x.0 < n) (sym (length-sizes plant)) there)) in
        let shared : some_shared plant aim x (pairs_of u) ≡ true = found_below (slice_index_or (sizes plant) x.0 0) (λ v. two_pass (shows v) aim.tracked) seen below twice in
        let clash : true ≡ false = sym shared ∙ denied (some_shared plant aim x (pairs_of u)) halves.1 in
        cc clash;
  }
    where
      halves : (list_all steps aim.tracked ≡ true) × (not (some_shared plant aim x (pairs_of u)) ≡ true)
      halves = and_parts (list_all steps aim.tracked) (not (some_shared plant aim x (pairs_of u))) h

  -- a value seen after steps from two of the states
  never_shared : Tests plant aim x u → some_shared plant aim x (pairs_of u) ≡ true → ⊥
  never_shared t shared =
      let f : Found (slice_index_or (sizes plant) x.0 0) (λ v. two_pass (shows v) aim.tracked) = below_found (slice_index_or (sizes plant) x.0 0) (λ v. two_pass (shows v) aim.tracked) shared in
      let two : PassingTwo (shows f.number) aim.tracked = two_passing (shows f.number) aim.tracked f.passes in
      let one : StepFound plant aim.present two.one.state (pairs_of u) (λ b. nat_eq (number_of b x.0) f.number) =
      step_found plant aim.present two.one.state (pairs_of u) (λ b. nat_eq (number_of b x.0) f.number) two.one_passes in
      let other : StepFound plant aim.present two.other.state (pairs_of u) (λ b. nat_eq (number_of b x.0) f.number) =
      step_found plant aim.present two.other.state (pairs_of u) (λ b. nat_eq (number_of b x.0) f.number) two.other_passes in
      t.apart two.first two.second two.one two.other two.less two.one_there two.other_there one.step other.step
      (eqb-true (number_of (map value one.step.after) x.0) f.number one.ends_so ∙ sym (eqb-true (number_of (map value other.step.after) x.0) f.number other.ends_so))

  pub tell_tests : Tests plant aim x u → tests plant aim x u ≡ true
  tell_tests t =
      and_from (list_all steps aim.tracked) (not (some_shared plant aim x (pairs_of u)))
      (each_passes steps aim.tracked (λ s a. found_step plant aim.present s.state (pairs_of u) (λ b. true) (t.step s (contained aim.tracked s a)) refl))
      (denial (some_shared plant aim x (pairs_of u)) (never_shared t))
