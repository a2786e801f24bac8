-- Of the cheapest free members the first in the order of slots, slot by slot.
use Rattle.std.proofs.Common.{◌≡◌, ℕ, zero, suc, ◌+◌, ◌<◌, ◌≤◌, Bool, true, false, nat_lt, nat_eq, List, [], ◌∷◌, ◌++◌, length, take, ◌⊎◌, inl, inr, refl, sym, ◌∙◌, ap₂, subst, add-one, arith}
use Rattle.std.specs.Prelude.{slice_index}
use Rattle.std.proofs.Math.Seq.{take-suc}
use Rattle.std.proofs.lemmas.List.{take_all}
use Rattle.std.proofs.lemmas.Bool.{and_from, and_parts, lt-ltb, eq-eqb, false_from_ne_true, cases_eq}
use Rattle.lv_base.specs.declared.ids.Cost.{Cost}
use Rattle.lv_base.specs.declared.search.Pair.{Pair}
use Rattle.lv_base.specs.Choices.{picks}
use Rattle.lv_base.specs.Order.{comes_before}
use Rattle.lv_base.proofs.OrderLemmas.{irreflexive, transitive}
use Rattle.lv_boxes.specs.Members.{are_left, choices_cost}
use Rattle.lv_boxes.specs.Parts.{masks_with}
use Rattle.lv_boxes.proofs.MemberLemmas.{length-are_left}
use Rattle.lv_search_guide.specs.declared.look.Member.{Member}
use Rattle.lv_search_bans.specs.Boxes.{is_free, CostsAtLeast}
use Rattle.lv_search_guide.specs.Dear.{KeepsUnder}
use Rattle.lv_search_guide.specs.Cheapest.{IsCheapest, IsCheapestUnder}
use Rattle.lv_search_guide.specs.Lowest.{IsLowest, NoneHas, OneHas, NoneBelow, IsFirstAt, IsNarrowed}
use Rattle.lv_search_bans.proofs.BoxLemmas.{left_with, free_with, free_is_left, length-left, choice_is}

clash : (b : Bool) → b ≡ true → b ≡ false → ⊥
clash b p q = cc

-- the part with a pair's choice is a part
pub with_inside : (slots : List (List Cost)) (conflicts : List (List Pair)) (masks choices : List ℕ) (p : Pair) → p.slot < length masks → is_free slots conflicts (masks_with masks p) choices ≡ true
    → (is_free slots conflicts masks choices ≡ true) × (picks choices p ≡ true)
with_inside slots conflicts masks choices p within h = and_parts (is_free slots conflicts masks choices) (picks choices p) (sym (free_with slots conflicts masks choices p within) ∙ h)

pub with_at_least : (slots : List (List Cost)) (conflicts : List (List Pair)) (masks part : List ℕ) (p : Pair) (cost : ℕ) → p.slot < length masks → part ≡ masks_with masks p
    → CostsAtLeast slots conflicts masks cost → CostsAtLeast slots conflicts part cost
with_at_least slots conflicts masks part p cost within is low =
    subst (λ ms. CostsAtLeast slots conflicts ms cost) (sym is) (record { least = λ choices free. low.least choices (with_inside slots conflicts masks choices p within free).0 })

-- the slots of a free member
pub slot_in_choices : (slots : List (List Cost)) (conflicts : List (List Pair)) (masks choices : List ℕ) (slot : ℕ) → is_free slots conflicts masks choices ≡ true → slot < length slots → slot < length choices
slot_in_choices slots conflicts masks choices slot free within = subst (λ n. slot < n) (sym (length-left slots masks choices (free_is_left slots conflicts masks choices free))) within

pub slot_in_masks : (slots : List (List Cost)) (conflicts : List (List Pair)) (masks choices : List ℕ) (slot : ℕ) → is_free slots conflicts masks choices ≡ true → slot < length slots → slot < length masks
slot_in_masks slots conflicts masks choices slot free within =
    subst (λ n. slot < n) (length-are_left slots masks choices (free_is_left slots conflicts masks choices free)) (slot_in_choices slots conflicts masks choices slot free within)

-- what the search in the part tells
pub has_none : (slots : List (List Cost)) (conflicts : List (List Pair)) (masks part : List ℕ) (p : Pair) (cost : ℕ) → p.slot < length masks → part ≡ masks_with masks p
    → CostsAtLeast slots conflicts part (cost + 1) → NoneHas slots conflicts masks p cost
has_none slots conflicts masks part p cost within is low = record { none = none }
  where
    none : (others : List ℕ) → is_free slots conflicts masks others ≡ true → picks others p ≡ true → choices_cost slots others ≡ cost → ⊥
    none others free has same =
        let there : is_free slots conflicts (masks_with masks p) others ≡ true = free_with slots conflicts masks others p within ∙ and_from (is_free slots conflicts masks others) (picks others p) free has in
        let far : cost + 1 ≤ choices_cost slots others = low.least others (subst (λ ms. is_free slots conflicts ms others ≡ true) (sym is) there) in
        omega (arith, far, same)

pub has_one : (slots : List (List Cost)) (conflicts : List (List Pair)) (masks part : List ℕ) (p : Pair) (cost : ℕ) (member : Member) → p.slot < length masks → part ≡ masks_with masks p
    → CostsAtLeast slots conflicts masks cost → IsCheapestUnder slots conflicts part (cost + 1) member → OneHas slots conflicts masks p cost member.choices
has_one slots conflicts masks part p cost member within is low found =
    let there = with_inside slots conflicts masks member.choices p within (subst (λ ms. is_free slots conflicts ms member.choices ≡ true) is found.cheapest.free) in
    let far : cost ≤ choices_cost slots member.choices = low.least member.choices there.0 in
    let near : member.cost < cost + 1 = found.below in
    let costs : choices_cost slots member.choices ≡ member.cost = found.cheapest.costs in
    record { free = there.0; costs = omega (arith, far, near, costs); has = there.1 }

-- one choice after the other at a slot
pub none_below_zero : (slots : List (List Cost)) (conflicts : List (List Pair)) (masks : List ℕ) (slot cost : ℕ) → NoneBelow slots conflicts masks slot 0 cost
none_below_zero slots conflicts masks slot cost = record { none = λ others free same. omega arith }

pub none_below_more : (slots : List (List Cost)) (conflicts : List (List Pair)) (masks : List ℕ) (slot choice cost : ℕ) → slot < length masks
    → NoneBelow slots conflicts masks slot choice cost → NoneHas slots conflicts masks (record { slot = slot; choice = choice }) cost → NoneBelow slots conflicts masks slot (choice + 1) cost
none_below_more slots conflicts masks slot choice cost within below lacks = record { none = more }
  where
    more : (others : List ℕ) → is_free slots conflicts masks others ≡ true → choices_cost slots others ≡ cost → choice + 1 ≤ slice_index others slot
    more others free same = by (cases_eq (slice_index others slot) choice)
      where
        by : (slice_index others slot ≡ choice) ⊎ (slice_index others slot ≡ choice → ⊥) → choice + 1 ≤ slice_index others slot
        by (inl is) =
            let long : slot < length others = subst (λ n. slot < n) (sym (length-are_left slots masks others (free_is_left slots conflicts masks others free))) within in
            let has : picks others (record { slot = slot; choice = choice }) ≡ true =
            and_from (nat_lt slot (length others)) (nat_eq (slice_index others slot) choice) (lt-ltb slot (length others) long) (eq-eqb (slice_index others slot) choice is) in
            absurd (lacks.none others free has same)
        by (inr other) = let far : choice ≤ slice_index others slot = below.none others free same in omega (arith, far, other)

pub first_found : (slots : List (List Cost)) (conflicts : List (List Pair)) (masks : List ℕ) (slot choice cost : ℕ) (lower : List ℕ)
    → NoneBelow slots conflicts masks slot choice cost → OneHas slots conflicts masks (record { slot = slot; choice = choice }) cost lower → IsFirstAt slots conflicts masks slot cost lower
first_found slots conflicts masks slot choice cost lower below one =
    record {
      free = one.free;
      costs = one.costs;
      first = subst (λ n. NoneBelow slots conflicts masks slot n cost) (sym (choice_is lower (record { slot = slot; choice = choice }) one.has)) below;
    }

-- lists that are alike before a slot are compared there
pub comes_at : (s : ℕ) (xs ys : List ℕ) → take s xs ≡ take s ys → s < length xs → s < length ys → slice_index xs s < slice_index ys s → comes_before xs ys ≡ true
comes_at s [] ys alike long long_too less = absurd (omega (arith, long))
comes_at s (x ∷ xs) [] alike long long_too less = absurd (omega (arith, long_too))
comes_at zero (x ∷ xs) (y ∷ ys) alike long long_too less = let here : x < y = less in grind arith
comes_at (suc s) (x ∷ xs) (y ∷ ys) alike long long_too less =
    let both : (x ∷ take s xs) ≡ (y ∷ take s ys) = alike in
    let first : x ≡ y = cc both in
    let later : take s xs ≡ take s ys = cc both in
    let rest : comes_before xs ys ≡ true = comes_at s xs ys later (omega (arith, long)) (omega (arith, long_too)) less in
    rw (rest, first) (grind arith)

alike_more : (s : ℕ) (xs ys : List ℕ) → s < length xs → s < length ys → take s xs ≡ take s ys → slice_index xs s ≡ slice_index ys s → take (s + 1) xs ≡ take (s + 1) ys
alike_more s xs ys long long_too alike same =
    rw (add-one s, take-suc xs s 0 long, take-suc ys s 0 long_too) (ap₂ (λ (front : List ℕ) (x : ℕ). front ++ (x ∷ [])) alike same)

-- no slot is settled yet
pub narrowed_begins : (slots : List (List Cost)) (conflicts : List (List Pair)) (whole part : List ℕ) (member : Member) → KeepsUnder slots conflicts (member.cost + 1) whole part → IsCheapest slots conflicts whole member
    → IsNarrowed slots conflicts whole member.cost 0 part member.choices
narrowed_begins slots conflicts whole part member k m =
    record {
      free = k.keeps member.choices m.free (let same = m.costs in omega (arith, same));
      costs = m.costs;
      inside = k.inside;
      alike = λ one other here there. refl;
      after = λ others free same gone one here. absurd (clash _ (k.keeps others free (omega (arith, same))) gone);
    }

pub narrowed_low : (slots : List (List Cost)) (conflicts : List (List Pair)) (whole : List ℕ) (cost slot : ℕ) (part choices : List ℕ) → IsNarrowed slots conflicts whole cost slot part choices
    → CostsAtLeast slots conflicts whole cost → CostsAtLeast slots conflicts part cost
narrowed_low slots conflicts whole cost slot part choices n low = record { least = λ others free. low.least others (n.inside others free) }

-- the choice at a slot as a pair
abbrev pub pair_at : ℕ → List ℕ → Pair
pair_at slot choices = record { slot = slot; choice = slice_index choices slot }

-- one more slot is settled
pub narrowed_more : (slots : List (List Cost)) (conflicts : List (List Pair)) (whole : List ℕ) (cost slot : ℕ) (part old choices new : List ℕ) → slot < length slots
    → IsNarrowed slots conflicts whole cost slot part old → IsFirstAt slots conflicts part slot cost choices
    → new ≡ masks_with part (record { slot = slot; choice = slice_index choices slot }) → IsNarrowed slots conflicts whole cost (slot + 1) new choices
narrowed_more slots conflicts whole cost slot part old choices new within n f is =
    subst (λ ms. IsNarrowed slots conflicts whole cost (slot + 1) ms choices) (sym is)
    (record { free = free; costs = f.costs; inside = λ others h. n.inside others (settled_inside others h).0; alike = alike; after = after })
  where
    long : (xs : List ℕ) → are_left slots part xs ≡ true → slot < length xs
    long xs h = subst (λ k. slot < k) (sym (length-left slots part xs h)) within

    within_part : slot < length part
    within_part = subst (λ k. slot < k) (length-are_left slots part choices (free_is_left slots conflicts part choices f.free)) (long choices (free_is_left slots conflicts part choices f.free))

    settled_inside : (others : List ℕ) → is_free slots conflicts (masks_with part (pair_at slot choices)) others ≡ true → (is_free slots conflicts part others ≡ true) × (picks others (pair_at slot choices) ≡ true)
    settled_inside others h = with_inside slots conflicts part others (pair_at slot choices) within_part h

    has_own : picks choices (pair_at slot choices) ≡ true
    has_own =
        and_from (nat_lt slot (length choices)) (nat_eq (slice_index choices slot) (slice_index choices slot))
        (lt-ltb slot (length choices) (long choices (free_is_left slots conflicts part choices f.free))) (eq-eqb (slice_index choices slot) (slice_index choices slot) refl)

    free : is_free slots conflicts (masks_with part (pair_at slot choices)) choices ≡ true
    free = free_with slots conflicts part choices (pair_at slot choices) within_part ∙ and_from (is_free slots conflicts part choices) (picks choices (pair_at slot choices)) f.free has_own

    left_inside : (xs : List ℕ) → are_left slots (masks_with part (pair_at slot choices)) xs ≡ true → (are_left slots part xs ≡ true) × (picks xs (pair_at slot choices) ≡ true)
    left_inside xs h = and_parts (are_left slots part xs) (picks xs (pair_at slot choices)) (sym (left_with slots part xs (pair_at slot choices) within_part) ∙ h)

    alike : (one other : List ℕ) → are_left slots (masks_with part (pair_at slot choices)) one ≡ true → are_left slots (masks_with part (pair_at slot choices)) other ≡ true → take (slot + 1) one ≡ take (slot + 1) other
    alike one other h k =
        let here = left_inside one h in
        let there = left_inside other k in
        alike_more slot one other (long one here.0) (long other there.0) (n.alike one other here.0 there.0) (choice_is one (pair_at slot choices) here.1 ∙ sym (choice_is other (pair_at slot choices) there.1))

    after : (others : List ℕ) → is_free slots conflicts whole others ≡ true → choices_cost slots others ≡ cost → is_free slots conflicts (masks_with part (pair_at slot choices)) others ≡ false
        → (one : List ℕ) → are_left slots (masks_with part (pair_at slot choices)) one ≡ true → comes_before one others ≡ true
    after others h same gone one k = by (is_free slots conflicts part others) refl
      where
        by : (b : Bool) → is_free slots conflicts part others ≡ b → comes_before one others ≡ true
        by false out = n.after others h same out one (left_inside one k).0
        by true here =
            let there = left_inside one k in
            let others_left : are_left slots part others ≡ true = free_is_left slots conflicts part others here in
            let low : slice_index choices slot ≤ slice_index others slot = f.first.none others here same in
            let own : slice_index one slot ≡ slice_index choices slot = choice_is one (pair_at slot choices) there.1 in
            let apart : slice_index others slot ≡ slice_index choices slot → ⊥ = λ e. lacks here e in
            comes_at slot one others (n.alike one others there.0 others_left) (long one there.0) (long others others_left) (omega (arith, low, own, apart))
          where
            lacks : is_free slots conflicts part others ≡ true → slice_index others slot ≡ slice_index choices slot → ⊥
            lacks here e =
                let has : picks others (pair_at slot choices) ≡ true =
                and_from (nat_lt slot (length others)) (nat_eq (slice_index others slot) (slice_index choices slot))
                (lt-ltb slot (length others) (long others (free_is_left slots conflicts part others here))) (eq-eqb (slice_index others slot) (slice_index choices slot) e) in
                clash _ (free_with slots conflicts part others (pair_at slot choices) within_part ∙ and_from (is_free slots conflicts part others) (picks others (pair_at slot choices)) here has) gone

-- all slots are settled
pub narrowed_ends : (slots : List (List Cost)) (conflicts : List (List Pair)) (whole : List ℕ) (cost slot : ℕ) (part choices : List ℕ) → length slots ≤ slot
    → IsNarrowed slots conflicts whole cost slot part choices → CostsAtLeast slots conflicts whole cost → IsLowest slots conflicts whole (record { cost = cost; choices = choices })
narrowed_ends slots conflicts whole cost slot part choices past n low =
    record { cheapest = record { free = n.inside choices n.free; costs = n.costs; least = low }; first = first }
  where
    whole_taken : (xs : List ℕ) → are_left slots part xs ≡ true → take slot xs ≡ xs
    whole_taken xs h = let len : length xs ≡ length slots = length-left slots part xs h in take_all slot xs (omega (arith, len, past))

    first : (others : List ℕ) → is_free slots conflicts whole others ≡ true → choices_cost slots others ≡ cost → comes_before others choices ≡ false
    first others h same = by (is_free slots conflicts part others) refl
      where
        by : (b : Bool) → is_free slots conflicts part others ≡ b → comes_before others choices ≡ false
        by true here =
            let own : are_left slots part choices ≡ true = free_is_left slots conflicts part choices n.free in
            let there : are_left slots part others ≡ true = free_is_left slots conflicts part others here in
            let one : others ≡ choices = sym (whole_taken others there) ∙ n.alike others choices there own ∙ whole_taken choices own in
            subst (λ xs. comes_before xs choices ≡ false) (sym one) (irreflexive choices)
        by false out =
            let later : comes_before choices others ≡ true = n.after others h same out choices (free_is_left slots conflicts part choices n.free) in
            false_from_ne_true (comes_before others choices) (λ before. clash (comes_before choices choices) (transitive choices others choices later before) (irreflexive choices))
