-- The list of the first states is determined by what holds of it.
use Rattle.std.proofs.Common.{◌≡◌, suc, Bool, true, false, not, ◌||◌, cond, List, [], ◌∷◌, Contains, inl, inr, ⊎_elim, Some, refl, sym, ◌∙◌, ap, ap₂, subst, arith}
use Rattle.std.specs.List.{list_all, list_any, find}
use Rattle.std.proofs.lemmas.Bool.{and_parts, or_cases, not-true}
use Rattle.lv_base.specs.declared.ids.ValId.{ValId}
use Rattle.lv_model.specs.declared.state.TrackedState.{TrackedState}
use Rattle.lv_tracker.specs.Distinct.{has_modes, first_of_each}
use Rattle.lv_tracker.specs.Laws.{appears_before, AreFirsts}
use Rattle.lv_tracker.proofs.SameModes.{same_modes}
use Rattle.lv_tracker.proofs.FirstLemmas.{Among, each_pair, order_by_pairs, first_of_each_law}

contained : {X : Type 0} (xs : List X) (x : X) → Among x xs → Contains xs x
contained [] x h = absurd h
contained (y ∷ ys) x (inl e) = (0, omega arith, sym e)
contained (y ∷ ys) x (inr h) = let c = contained ys x h in let lt = c.1 in (suc c.0, omega arith, c.2)

all_among : {X : Type 0} (f : X → Bool) (xs : List X) (x : X) → list_all f xs ≡ true → Among x xs → f x ≡ true
all_among f [] x h a = absurd a
all_among f (y ∷ ys) x h (inl e) = ap f e ∙ (and_parts (f y) (list_all f ys) h).0
all_among f (y ∷ ys) x h (inr a) = all_among f ys x (and_parts (f y) (list_all f ys) h).1 a

-- two lists of the same items, in each of which every item is before all later ones, are one
module _ {X : Type 0} (before : X → X → Bool) (one_way : (x y : X) → before x y ≡ true → before y x ≡ true → ⊥) where
  pub one_list : (xs ys : List X) → each_pair before xs ≡ true → each_pair before ys ≡ true → ((x : X) → Among x xs → Among x ys) → ((x : X) → Among x ys → Among x xs) → xs ≡ ys
  one_list [] [] up down there here = refl
  one_list [] (y ∷ ys) up down there here = absurd (here y (inl refl))
  one_list (x ∷ xs) [] up down there here = absurd (there x (inl refl))
  one_list (x ∷ xs) (y ∷ ys) up down there here =
      let left = and_parts (list_all (before x) xs) (each_pair before xs) up in
      let right = and_parts (list_all (before y) ys) (each_pair before ys) down in
      let first : x ≡ y =
      ⊎_elim (λ e. e)
      (λ later. ⊎_elim (λ e. sym e) (λ behind. absurd (one_way x y (all_among (before x) xs y left.0 behind) (all_among (before y) ys x right.0 later))) (here y (inl refl)))
      (there x (inl refl))
      in
      let left_there : (q : X) → Among q xs → Among q ys = λ q a.
      ⊎_elim (λ e. let self : before x x ≡ true = ap (before x) (first ∙ sym e) ∙ all_among (before x) xs q left.0 a in absurd (one_way x x self self)) (λ b. b) (there q (inr a))
      in
      let right_here : (q : X) → Among q ys → Among q xs = λ q a.
      ⊎_elim (λ e. let self : before y y ≡ true = ap (before y) (sym first ∙ sym e) ∙ all_among (before y) ys q right.0 a in absurd (one_way y y self self)) (λ b. b) (here q (inr a))
      in
      ap₂ (λ (t : X) (ts : List X). t ∷ ts) first (one_list xs ys left.1 right.1 left_there right_here)

appears_one_way : (listed : List TrackedState) (a b : TrackedState) → appears_before listed a b ≡ true → appears_before listed b a ≡ true → ⊥
appears_one_way [] a b p q = absurd (cc p)
appears_one_way (s ∷ ss) a b p q =
    let left = and_parts (not (has_modes b.state.modes s)) (has_modes a.state.modes s || appears_before ss a b) p in
    let right = and_parts (not (has_modes a.state.modes s)) (has_modes b.state.modes s || appears_before ss b a) q in
    appears_one_way ss a b
    (ap (λ c. c || appears_before ss a b) (sym (not-true (has_modes a.state.modes s) right.0)) ∙ left.1)
    (ap (λ c. c || appears_before ss b a) (sym (not-true (has_modes b.state.modes s) left.0)) ∙ right.1)

found_among : {X : Type 0} (p : X → Bool) (xs : List X) (x : X) → find p xs ≡ Some x → Among x xs
found_among p [] x h = absurd (cc h)
found_among p (y ∷ ys) x h = by (p y) (λ e. found_among p ys x e) h
  where
    by : (b : Bool) → (find p ys ≡ Some x → Among x ys) → cond b (Some y) (find p ys) ≡ Some x → Among x (y ∷ ys)
    by true ih e = inl (cc e)
    by false ih e = inr (ih e)

pub record SomeAmong {X : Type 0} (p : X → Bool) (xs : List X) : Type 0 where
  pub item : X
  pub among : Among item xs
  pub passes : p item ≡ true

some_among : {X : Type 0} (p : X → Bool) (xs : List X) → list_any p xs ≡ true → SomeAmong p xs
some_among p [] h = absurd (cc h)
some_among p (y ∷ ys) h =
    ⊎_elim (λ e. record { item = y; among = inl refl; passes = e })
    (λ rest. let r : SomeAmong p ys = some_among p ys rest in record { item = r.item; among = inr r.among; passes = r.passes })
    (or_cases (p y) (list_any p ys) h)

-- what one such list has, another has
kept_in_both : (listed a b : List TrackedState) → AreFirsts listed a → AreFirsts listed b → (x : TrackedState) → Among x a → Among x b
kept_in_both listed a b of_a of_b x h =
    let first : find (has_modes x.state.modes) listed ≡ Some x = of_a.firsts x (contained a x h) in
    let there : SomeAmong (has_modes x.state.modes) b =
    some_among (has_modes x.state.modes) b (of_b.covered x (contained listed x (found_among (has_modes x.state.modes) listed x first)))
    in
    let same : there.item.state.modes ≡ x.state.modes = same_modes x there.item there.passes in
    let other : find (has_modes there.item.state.modes) listed ≡ Some there.item = of_b.firsts there.item (contained b there.item there.among) in
    let both : Some x ≡ Some there.item = sym first ∙ ap (λ (modes : List ValId). find (has_modes modes) listed) (sym same) ∙ other in
    let is : there.item ≡ x = cc both in
    subst (λ (t : TrackedState). Among t b) is there.among

pub first_of_each_one : (listed kept : List TrackedState) → AreFirsts listed kept → kept ≡ first_of_each listed
first_of_each_one listed kept of_kept =
    let of_first : AreFirsts listed (first_of_each listed) = first_of_each_law listed in
    one_list (appears_before listed) (appears_one_way listed) kept (first_of_each listed)
    (sym (order_by_pairs listed kept) ∙ of_kept.in_order)
    (sym (order_by_pairs listed (first_of_each listed)) ∙ of_first.in_order)
    (kept_in_both listed kept (first_of_each listed) of_kept of_first)
    (kept_in_both listed (first_of_each listed) kept of_first of_kept)
