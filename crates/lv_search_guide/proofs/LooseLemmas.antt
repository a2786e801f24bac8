-- Loose choices, conflict by conflict.
use Rattle.std.proofs.Common.{◌≡◌, ℕ, ◌+◌, ◌<◌, ◌≤◌, Bool, true, false, not, nat_lt, nat_eq, ◌&&◌, ◌||◌, List, [], ◌∷◌, ◌++◌, length, take, get_or, ◌⊎◌, inl, inr, refl, sym, ◌∙◌, ap, subst, add-one}
use Rattle.std.specs.Prelude.{slice_index, slice_set}
use Rattle.std.specs.List.{list_all}
use Rattle.std.proofs.Math.Seq.{take-suc}
use Rattle.std.proofs.lemmas.Bool.{and_from, and_parts, or_parts, eqb-true, eq-eqb, lt-ltb, ltb-true, false_from_ne_true, cases_eq}
use Rattle.std.proofs.lemmas.List.{length-set, take_all, get_or-set_same, get_or-set_other}
use Rattle.std.proofs.lemmas.List.Folds.{list_any-append, list_all-append}
use Rattle.lv_base.specs.declared.ids.Cost.{Cost}
use Rattle.lv_base.specs.declared.search.Pair.{Pair}
use Rattle.lv_base.specs.Choices.{picks, contains_all}
use Rattle.lv_boxes.specs.Masks.{has_choice, without_choice}
use Rattle.lv_boxes.specs.Members.{is_left, are_left}
use Rattle.lv_boxes.specs.Parts.{masks_without}
use Rattle.lv_boxes.proofs.MaskLemmas.{has_choice-without}
use Rattle.lv_boxes.proofs.MemberLemmas.{length-are_left}
use Rattle.lv_boxes.specs.Walk.{is_ruled_out}
use Rattle.lv_search_bans.specs.Boxes.{has_left}
use Rattle.lv_search_guide.specs.First.{AreLoose, are_apart, TakesOut}
use Rattle.lv_search_bans.proofs.BoxLemmas.{length-left, slot_within, choice_is}
use Rattle.lv_search_bans.proofs.PriceLemmas.{left_at}

clash : (b : Bool) → b ≡ true → b ≡ false → ⊥
clash b p q = cc

-- the box has what a member picks
picked_left : (slots : List (List Cost)) (masks choices : List ℕ) (p : Pair) → are_left slots masks choices ≡ true → picks choices p ≡ true → has_left masks p ≡ true
picked_left slots masks choices p left has =
    let long : p.slot < length choices = slot_within choices p has in
    let here : p.slot < length slots = subst (λ n. p.slot < n) (length-left slots masks choices left) long in
    let there : p.slot < length masks = subst (λ n. p.slot < n) (length-are_left slots masks choices left) long in
    let own : is_left _ (slice_index masks p.slot) (slice_index choices p.slot) ≡ true = left_at slots p.slot masks choices here left in
    and_from (nat_lt p.slot (length masks)) (has_choice (slice_index masks p.slot) p.choice) (lt-ltb p.slot (length masks) there)
    (subst (λ n. has_choice (slice_index masks p.slot) n ≡ true) (choice_is choices p has) (and_parts _ (has_choice (slice_index masks p.slot) (slice_index choices p.slot)) own).1)

contained_left : (slots : List (List Cost)) (masks choices : List ℕ) (pairs : List Pair) → are_left slots masks choices ≡ true → contains_all choices pairs ≡ true → list_all (has_left masks) pairs ≡ true
contained_left slots masks choices [] left has = refl
contained_left slots masks choices (p ∷ ps) left has =
    let parts = and_parts (picks choices p) (contains_all choices ps) has in
    and_from (has_left masks p) (list_all (has_left masks) ps) (picked_left slots masks choices p left parts.0) (contained_left slots masks choices ps left parts.1)

-- what a list has with one choice put in, it has without, but for that choice
picked_before : (choices : List ℕ) (p q : Pair) → are_apart p q ≡ true → picks (slice_set choices p.slot p.choice) q ≡ true → picks choices q ≡ true
picked_before choices p q apart has = by (cases_eq q.slot p.slot)
  where
    put : List ℕ
    put = slice_set choices p.slot p.choice

    within : q.slot < length choices
    within = let long : q.slot < length put = slot_within put q has in rw (length-set choices p.slot p.choice) at long

    is : slice_index put q.slot ≡ q.choice
    is = choice_is put q has

    by : (q.slot ≡ p.slot) ⊎ (q.slot ≡ p.slot → ⊥) → picks choices q ≡ true
    by (inl same) =
        let own : slice_index put p.slot ≡ p.choice = get_or-set_same choices p.slot p.choice 0 (subst (λ n. n < length choices) same within) in
        let one : p.choice ≡ q.choice = sym own ∙ ap (slice_index put) (sym same) ∙ is in
        absurd (never (eq-eqb p.slot q.slot (sym same)) (eq-eqb p.choice q.choice one))
      where
        never : nat_eq p.slot q.slot ≡ true → nat_eq p.choice q.choice ≡ true → ⊥
        never h k = let both : not (true && true) ≡ true = rw (h, k) at apart in cc both
    by (inr other) =
        let still : slice_index put q.slot ≡ slice_index choices q.slot = get_or-set_other choices p.slot q.slot p.choice 0 other in
        and_from (nat_lt q.slot (length choices)) (nat_eq (slice_index choices q.slot) q.choice) (lt-ltb q.slot (length choices) within) (eq-eqb (slice_index choices q.slot) q.choice (sym still ∙ is))

contained_before : (choices : List ℕ) (p : Pair) (pairs : List Pair) → list_all (are_apart p) pairs ≡ true → contains_all (slice_set choices p.slot p.choice) pairs ≡ true → contains_all choices pairs ≡ true
contained_before choices p [] apart has = refl
contained_before choices p (q ∷ qs) apart has =
    let aparts = and_parts (are_apart p q) (list_all (are_apart p) qs) apart in
    let parts = and_parts (picks (slice_set choices p.slot p.choice) q) (contains_all (slice_set choices p.slot p.choice) qs) has in
    and_from (picks choices q) (contains_all choices qs) (picked_before choices p q aparts.0 parts.0) (contained_before choices p qs aparts.1 parts.1)

-- choices taken out one after another
pub takes_none : (masks : List ℕ) → TakesOut [] masks masks
takes_none masks = record { inside = λ p h. h; apart = λ p h. refl }

left_without : (masks : List ℕ) (q p : Pair) → has_left (masks_without masks q) p ≡ true → (has_left masks p ≡ true) × (are_apart p q ≡ true)
left_without masks q p h = by (cases_eq p.slot q.slot)
  where
    new : List ℕ
    new = masks_without masks q

    parts : (nat_lt p.slot (length new) ≡ true) × (has_choice (slice_index new p.slot) p.choice ≡ true)
    parts = and_parts (nat_lt p.slot (length new)) (has_choice (slice_index new p.slot) p.choice) h

    within : p.slot < length masks
    within = let long : p.slot < length new = ltb-true p.slot (length new) parts.0 in rw (length-set masks q.slot (without_choice (slice_index masks q.slot) q.choice)) at long

    has : has_choice (slice_index masks p.slot) p.choice ≡ true → has_left masks p ≡ true
    has k = and_from (nat_lt p.slot (length masks)) (has_choice (slice_index masks p.slot) p.choice) (lt-ltb p.slot (length masks) within) k

    by : (p.slot ≡ q.slot) ⊎ (p.slot ≡ q.slot → ⊥) → (has_left masks p ≡ true) × (are_apart p q ≡ true)
    by (inl same) =
        let there : q.slot < length masks = subst (λ n. n < length masks) same within in
        let word : slice_index new p.slot ≡ without_choice (slice_index masks q.slot) q.choice = ap (slice_index new) same ∙ get_or-set_same masks q.slot (without_choice (slice_index masks q.slot) q.choice) 0 there in
        let out : has_choice (without_choice (slice_index masks q.slot) q.choice) p.choice ≡ true = subst (λ n. has_choice n p.choice ≡ true) word parts.1 in
        let both = and_parts (has_choice (slice_index masks q.slot) p.choice) (not (nat_eq p.choice q.choice)) (sym (has_choice-without (slice_index masks q.slot) q.choice p.choice) ∙ out) in
        (has (subst (λ n. has_choice (slice_index masks n) p.choice ≡ true) (sym same) both.0), other (nat_eq p.slot q.slot) (nat_eq p.choice q.choice) both.1)
      where
        other : (a b : Bool) → not b ≡ true → not (a && b) ≡ true
        other true b k = k
        other false b k = refl
    by (inr apart) =
        (has (subst (λ n. has_choice n p.choice ≡ true) (get_or-set_other masks q.slot p.slot (without_choice (slice_index masks q.slot) q.choice) 0 apart) parts.1), other (nat_eq p.slot q.slot) refl)
      where
        other : (a : Bool) → nat_eq p.slot q.slot ≡ a → not (a && nat_eq p.choice q.choice) ≡ true
        other true e = absurd (apart (eqb-true p.slot q.slot e))
        other false e = refl

pub takes_more : (pairs : List Pair) (i : ℕ) (d : Pair) (old mid new : List ℕ) → i < length pairs → new ≡ masks_without mid (get_or pairs i d) → TakesOut (take i pairs) old mid → TakesOut (take (i + 1) pairs) old new
takes_more pairs i d old mid new within is t =
    subst (λ (ms : List ℕ). TakesOut (take (i + 1) pairs) old ms) (sym is)
    (record {
      inside = λ p h. t.inside p (left_without mid (get_or pairs i d) p h).0;
      apart = λ p h. let parts = left_without mid (get_or pairs i d) p h in
          ap (list_all (are_apart p)) (ap (λ n. take n pairs) (add-one i) ∙ take-suc pairs i d within) ∙ list_all-append (are_apart p) (take i pairs) (get_or pairs i d ∷ [])
          ∙ and_from (list_all (are_apart p) (take i pairs)) (are_apart p (get_or pairs i d) && true) (t.apart p parts.0) (and_from (are_apart p (get_or pairs i d)) true parts.1 refl);
    })

pub takes_all : (pairs : List Pair) (i : ℕ) (old new : List ℕ) → length pairs ≤ i → TakesOut (take i pairs) old new → TakesOut pairs old new
takes_all pairs i old new past t = subst (λ (ps : List Pair). TakesOut ps old new) (take_all i pairs past) t

-- without the choices of one more conflict, where a member may contain it
pub none_bound : (masks loose : List ℕ) → AreLoose [] masks loose
none_bound masks loose = record { stays = λ slots choices p h left free. refl }

module _ (conflicts : List (List Pair)) (pairs : List Pair) (masks old new : List ℕ) (are : AreLoose conflicts masks old) where
  bound_by : ((p : Pair) → has_left new p ≡ true → has_left old p ≡ true)
      → ((slots : List (List Cost)) (choices : List ℕ) (p : Pair) → has_left new p ≡ true → are_left slots masks (slice_set choices p.slot p.choice) ≡ true → contains_all (slice_set choices p.slot p.choice) pairs ≡ true
      → contains_all choices pairs ≡ true)
      → AreLoose (conflicts ++ pairs ∷ []) masks new
  bound_by inside before = record { stays = stays }
    where
      stays : (slots : List (List Cost)) (choices : List ℕ) (p : Pair) → has_left new p ≡ true → are_left slots masks (slice_set choices p.slot p.choice) ≡ true
          → is_ruled_out (conflicts ++ pairs ∷ []) choices ≡ false → is_ruled_out (conflicts ++ pairs ∷ []) (slice_set choices p.slot p.choice) ≡ false
      stays slots choices p h left free =
          let parts = or_parts (is_ruled_out conflicts choices) (contains_all choices pairs || false) (sym (list_any-append (contains_all choices) conflicts (pairs ∷ [])) ∙ free) in
          let last = or_parts (contains_all choices pairs) false parts.1 in
          let put : List ℕ = slice_set choices p.slot p.choice in
          list_any-append (contains_all put) conflicts (pairs ∷ [])
          ∙ (λ i. are.stays slots choices p (inside p h) left parts.0 i
          || (false_from_ne_true (contains_all put pairs) (λ has. clash (contains_all choices pairs) (before slots choices p h left has) last.0) i || false))

  pub bound_out : TakesOut pairs old new → AreLoose (conflicts ++ pairs ∷ []) masks new
  bound_out t = bound_by t.inside (λ slots choices p h left has. contained_before choices p pairs (t.apart p h) has)

  pub bound_not : list_all (has_left masks) pairs ≡ false → new ≡ old → AreLoose (conflicts ++ pairs ∷ []) masks new
  bound_not lacks is =
      bound_by (λ p h. subst (λ (ms : List ℕ). has_left ms p ≡ true) is h)
      (λ slots choices p h left has. absurd (clash (list_all (has_left masks) pairs) (contained_left slots masks (slice_set choices p.slot p.choice) pairs left has) lacks))

pub bound_more : (conflicts : List (List Pair)) (i : ℕ) (d pairs : List Pair) (masks old new : List ℕ) → i < length conflicts → pairs ≡ get_or conflicts i d
    → ((ks : List (List Pair)) → AreLoose ks masks old → AreLoose (ks ++ pairs ∷ []) masks new) → AreLoose (take i conflicts) masks old → AreLoose (take (i + 1) conflicts) masks new
bound_more conflicts i d pairs masks old new within is step are =
    subst (λ (ks : List (List Pair)). AreLoose ks masks new) (sym (ap (λ n. take n conflicts) (add-one i) ∙ take-suc conflicts i d within))
    (subst (λ (ps : List Pair). AreLoose (take i conflicts ++ ps ∷ []) masks new) is (step (take i conflicts) are))

pub bound_all : (conflicts : List (List Pair)) (i : ℕ) (masks loose : List ℕ) → length conflicts ≤ i → AreLoose (take i conflicts) masks loose → AreLoose conflicts masks loose
bound_all conflicts i masks loose past are = subst (λ (ks : List (List Pair)). AreLoose ks masks loose) (take_all i conflicts past) are
