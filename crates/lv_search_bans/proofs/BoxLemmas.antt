-- Free members of a box and of the two parts into which a pair splits it, and the size of these.
use Rattle.std.proofs.Common.{◌≡◌, ◌≢◌, ℕ, ◌+◌, ◌*◌, ◌^◌, ◌<◌, ◌≤◌, Bool, true, false, not, nat_lt, nat_eq, ◌&&◌, ◌||◌, List, [], ◌∷◌, Some, None, length, ◌⊎◌, inl, inr, refl, sym, ◌∙◌, ap, subst, cond, arith}
use Rattle.std.specs.Prelude.{slice_index, slice_set, find, sum, bit_and, bit_xor}
use Rattle.std.specs.List.{list_all, list_any}
use Rattle.std.specs.Int.Bits.{xor_add_and, and_self}
use Rattle.std.proofs.lemmas.Nat.Bits.{bit_at-zero}
use Rattle.std.proofs.lemmas.Nat.{and_assoc, and_le_l}
use Rattle.std.proofs.lemmas.Bool.{and_from, and_parts, or_left, or_right, eqb-true, eq-eqb, ltb-true, cases_eq}
use Rattle.std.proofs.lemmas.List.{set-get_or}
use Rattle.std.proofs.lemmas.List.Sums.{sum_by-set}
use Rattle.lv_base.specs.declared.ids.Cost.{Cost}
use Rattle.lv_base.specs.declared.search.Pair.{Pair}
use Rattle.lv_base.specs.declared.search.Candidate.{Candidate}
use Rattle.lv_base.specs.Choices.{picks, contains_all}
use Rattle.lv_boxes.specs.Masks.{has_choice, only_choice, without_choice}
use Rattle.lv_boxes.specs.Members.{ZoneValue, are_left}
use Rattle.lv_boxes.specs.Parts.{masks_with, masks_without}
use Rattle.lv_boxes.proofs.PartsLemmas.{is_member-with, is_member-without}
use Rattle.lv_boxes.proofs.MemberLemmas.{length-are_left}
use Rattle.lv_boxes.specs.Walk.{is_ruled_out}
use Rattle.lv_search_bans.specs.Boxes.{is_free, is_open}

-- a box as the zone of a tracked state that costs nothing, and choices as its candidate
abbrev pub zone_at : List ℕ → ZoneValue
zone_at masks = record { source = 0; base = record { 0 = 0 }; masks = masks }

abbrev pub candidate_at : List ℕ → Candidate
candidate_at choices = record { source = 0; choices = choices }

pub left_with : (slots : List (List Cost)) (masks choices : List ℕ) (p : Pair) → p.slot < length masks
    → are_left slots (masks_with masks p) choices ≡ (are_left slots masks choices && picks choices p)
left_with slots masks choices p within = is_member-with slots (zone_at masks) p (candidate_at choices) within

pub left_without : (slots : List (List Cost)) (masks choices : List ℕ) (p : Pair) → p.slot < length masks
    → are_left slots (masks_without masks p) choices ≡ (are_left slots masks choices && not (picks choices p))
left_without slots masks choices p within = is_member-without slots (zone_at masks) p (candidate_at choices) within

-- the last of three tests goes before the second
and_last : (l k r : Bool) → ((l && k) && not r) ≡ ((l && not r) && k)
and_last true true r = sym (and_true (not r))
  where
    and_true : (b : Bool) → (b && true) ≡ b
    and_true true = refl
    and_true false = refl
and_last true false r = sym (and_false (not r))
  where
    and_false : (b : Bool) → (b && false) ≡ false
    and_false true = refl
    and_false false = refl
and_last false k r = refl

-- the free members of the part that has the pair's choice, and of the part that hasn't
pub free_with : (slots : List (List Cost)) (conflicts : List (List Pair)) (masks choices : List ℕ) (p : Pair) → p.slot < length masks
    → is_free slots conflicts (masks_with masks p) choices ≡ (is_free slots conflicts masks choices && picks choices p)
free_with slots conflicts masks choices p within =
    ap (λ b. b && not (is_ruled_out conflicts choices)) (left_with slots masks choices p within)
    ∙ and_last (are_left slots masks choices) (picks choices p) (is_ruled_out conflicts choices)

pub free_without : (slots : List (List Cost)) (conflicts : List (List Pair)) (masks choices : List ℕ) (p : Pair) → p.slot < length masks
    → is_free slots conflicts (masks_without masks p) choices ≡ (is_free slots conflicts masks choices && not (picks choices p))
free_without slots conflicts masks choices p within =
    ap (λ b. b && not (is_ruled_out conflicts choices)) (left_without slots masks choices p within)
    ∙ and_last (are_left slots masks choices) (not (picks choices p)) (is_ruled_out conflicts choices)

-- a free member is left, and a list that contains a conflict is none
pub free_is_left : (slots : List (List Cost)) (conflicts : List (List Pair)) (masks choices : List ℕ) → is_free slots conflicts masks choices ≡ true → are_left slots masks choices ≡ true
free_is_left slots conflicts masks choices h = (and_parts (are_left slots masks choices) (not (is_ruled_out conflicts choices)) h).0

pub free_from : (slots : List (List Cost)) (conflicts : List (List Pair)) (masks choices : List ℕ) → are_left slots masks choices ≡ true → is_ruled_out conflicts choices ≡ false
    → is_free slots conflicts masks choices ≡ true
free_from slots conflicts masks choices left misses = rw (left, misses) refl

-- no choice is left of none
pub none_of_zero : (choice : ℕ) → has_choice 0 choice ≡ false
none_of_zero choice = ap (λ n. nat_eq n 1) (bit_at-zero choice)

-- there is one choice for each slot
pub length-left : (slots : List (List Cost)) (masks choices : List ℕ) → are_left slots masks choices ≡ true → length choices ≡ length slots
length-left [] [] [] h = refl
length-left [] [] (choice ∷ choices) h = absurd (cc h)
length-left [] (mask ∷ masks) [] h = absurd (cc h)
length-left [] (mask ∷ masks) (choice ∷ choices) h = absurd (cc h)
length-left (costs ∷ slots) [] [] h = absurd (cc h)
length-left (costs ∷ slots) [] (choice ∷ choices) h = absurd (cc h)
length-left (costs ∷ slots) (mask ∷ masks) [] h = absurd (cc h)
length-left (costs ∷ slots) (mask ∷ masks) (choice ∷ choices) h =
    let rest : are_left slots masks choices ≡ true = grind arith in
    let same : length choices ≡ length slots = length-left slots masks choices rest in
    omega arith

-- what is found passes each test that all pass, and a test that it passes is one that some pass
module _ {X : Type 0} (p q : X → Bool) where
  pub found_passes : (xs : List X) (x : X) → find p xs ≡ Some x → list_all q xs ≡ true → q x ≡ true
  found_passes [] x e h = absurd (cc e)
  found_passes (y ∷ ys) x e h = by (p y) e (and_parts (q y) (list_all q ys) h) (found_passes ys x)
    where
      by : (b : Bool) → cond b (Some y) (find p ys) ≡ Some x → (q y ≡ true) × (list_all q ys ≡ true)
          → (find p ys ≡ Some x → list_all q ys ≡ true → q x ≡ true) → q x ≡ true
      by true e parts later = let same : y ≡ x = cc e in subst (λ z. q z ≡ true) same parts.0
      by false e parts later = later e parts.1

  pub some_pass : (xs : List X) (x : X) → find p xs ≡ Some x → q x ≡ true → list_any q xs ≡ true
  some_pass [] x e h = absurd (cc e)
  some_pass (y ∷ ys) x e h = by (p y) e (some_pass ys x)
    where
      by : (b : Bool) → cond b (Some y) (find p ys) ≡ Some x → (find p ys ≡ Some x → q x ≡ true → list_any q ys ≡ true) → (q y || list_any q ys) ≡ true
      by true e later = let same : y ≡ x = cc e in or_left (q y) (list_any q ys) (subst (λ z. q z ≡ true) (sym same) h)
      by false e later = or_right (q y) (list_any q ys) (later e h)

module _ {X : Type 0} (p : X → Bool) where
  pub found_itself : (xs : List X) (x : X) → find p xs ≡ Some x → p x ≡ true
  found_itself [] x e = absurd (cc e)
  found_itself (y ∷ ys) x e = by (p y) refl e (found_itself ys x)
    where
      by : (b : Bool) → p y ≡ b → cond b (Some y) (find p ys) ≡ Some x → (find p ys ≡ Some x → p x ≡ true) → p x ≡ true
      by true is e later = let same : y ≡ x = cc e in subst (λ z. p z ≡ true) same is
      by false is e later = later e

  pub none_pass : (xs : List X) → find p xs ≡ None → list_any p xs ≡ false
  none_pass [] e = refl
  none_pass (y ∷ ys) e = by (p y) e (none_pass ys)
    where
      by : (b : Bool) → cond b (Some y) (find p ys) ≡ None → (find p ys ≡ None → list_any p ys ≡ false) → (b || list_any p ys) ≡ false
      by true e later = absurd (cc e)
      by false e later = later e

-- a choice taken out of a mask, and the choice, are the mask
pub without_and_only : (m k : ℕ) → without_choice m k + only_choice m k ≡ m
without_and_only m k =
    let both : bit_xor m (bit_and m (2 ^ k)) + bit_and m (bit_and m (2 ^ k)) * 2 ≡ m + bit_and m (2 ^ k) = xor_add_and m (bit_and m (2 ^ k)) in
    let once : bit_and m (bit_and m (2 ^ k)) ≡ bit_and m (2 ^ k) = sym (and_assoc (2 ^ k) m m) ∙ ap (λ n. bit_and n (2 ^ k)) (and_self m) in
    omega (arith, both, once)

-- a slot whose mask is made smaller makes the box smaller
pub smaller : (masks : List ℕ) (s m : ℕ) → s < length masks → m ≤ slice_index masks s → m ≢ slice_index masks s → sum (slice_set masks s m) < sum masks
smaller masks s m within less other =
    let sums : sum (slice_set masks s m) + slice_index masks s ≡ sum masks + m = sum_by-set (λ n. n) masks s m 0 within in
    omega (arith, sums, less, other)

-- where the pair's choice is all that its slot has left, the part with it is the whole
pub with_all : (masks : List ℕ) (p : Pair) → only_choice (slice_index masks p.slot) p.choice ≡ slice_index masks p.slot → masks_with masks p ≡ masks
with_all masks p e = ap (λ m. slice_set masks p.slot m) e ∙ set-get_or masks p.slot 0

pub without_all : (masks : List ℕ) (p : Pair) → without_choice (slice_index masks p.slot) p.choice ≡ slice_index masks p.slot → masks_without masks p ≡ masks
without_all masks p e = ap (λ m. slice_set masks p.slot m) e ∙ set-get_or masks p.slot 0

-- what a list that has a pair's choice tells of the slot
pub slot_within : (choices : List ℕ) (p : Pair) → picks choices p ≡ true → p.slot < length choices
slot_within choices p h = ltb-true p.slot (length choices) (and_parts (nat_lt p.slot (length choices)) (nat_eq (slice_index choices p.slot) p.choice) h).0

pub choice_is : (choices : List ℕ) (p : Pair) → picks choices p ≡ true → slice_index choices p.slot ≡ p.choice
choice_is choices p h = eqb-true (slice_index choices p.slot) p.choice (and_parts (nat_lt p.slot (length choices)) (nat_eq (slice_index choices p.slot) p.choice) h).1

-- an open pair whose choice a member has makes both parts smaller
pub record IsSmaller (masks : List ℕ) (p : Pair) : Type 0 where
  pub within : p.slot < length masks
  pub with_less : sum (masks_with masks p) < sum masks
  pub without_less : sum (masks_without masks p) < sum masks

pub both_smaller : (slots : List (List Cost)) (masks choices : List ℕ) (p : Pair) → are_left slots masks choices ≡ true → picks choices p ≡ true → is_open masks p ≡ true → IsSmaller masks p
both_smaller slots masks choices p left has opens =
    let parts = and_parts (nat_lt p.slot (length masks)) (not (nat_eq (only_choice (slice_index masks p.slot) p.choice) (slice_index masks p.slot))) opens in
    let here : p.slot < length masks = ltb-true p.slot (length masks) parts.0 in
    record {
      within = here;
      with_less = smaller masks p.slot (only_choice (slice_index masks p.slot) p.choice) here (and_le_l (slice_index masks p.slot) (2 ^ p.choice)) (λ e. with_differs parts.1 e);
      without_less = smaller masks p.slot (without_choice (slice_index masks p.slot) p.choice) here without_le (λ e. without_differs here e);
    }
  where
    with_differs : not (nat_eq (only_choice (slice_index masks p.slot) p.choice) (slice_index masks p.slot)) ≡ true → only_choice (slice_index masks p.slot) p.choice ≡ slice_index masks p.slot → ⊥
    with_differs h e =
        let same : not true ≡ true = rw (eq-eqb (only_choice (slice_index masks p.slot) p.choice) (slice_index masks p.slot) e) at h in
        absurd (cc same)

    without_le : without_choice (slice_index masks p.slot) p.choice ≤ slice_index masks p.slot
    without_le = let sums = without_and_only (slice_index masks p.slot) p.choice in omega (arith, sums)

    without_differs : p.slot < length masks → without_choice (slice_index masks p.slot) p.choice ≡ slice_index masks p.slot → ⊥
    without_differs here e =
        let part : are_left slots (masks_without masks p) choices ≡ true = rw (without_all masks p e) left in
        let lacks : (are_left slots masks choices && not (picks choices p)) ≡ true = sym (left_without slots masks choices p here) ∙ part in
        let lacks_it : not (picks choices p) ≡ true = (and_parts (are_left slots masks choices) (not (picks choices p)) lacks).1 in
        let not_has : not true ≡ true = rw has at lacks_it in
        absurd (cc not_has)

-- where no pair of a conflict that some member contains is open, each member contains it
pub all_contain : (slots : List (List Cost)) (masks choices : List ℕ) (pairs : List Pair) → are_left slots masks choices ≡ true → contains_all choices pairs ≡ true → list_any (is_open masks) pairs ≡ false
    → (others : List ℕ) → are_left slots masks others ≡ true → contains_all others pairs ≡ true
all_contain slots masks choices [] left has closed others there = refl
all_contain slots masks choices (p ∷ ps) left has closed others there =
    let parts = and_parts (picks choices p) (contains_all choices ps) has in
    and_from (picks others p) (contains_all others ps)
    (first parts.0 (cases_eq (only_choice (slice_index masks p.slot) p.choice) (slice_index masks p.slot)))
    (all_contain slots masks choices ps left parts.1 (or_false (is_open masks p) (list_any (is_open masks) ps) closed).1 others there)
  where
    or_false : (a b : Bool) → (a || b) ≡ false → (a ≡ false) × (b ≡ false)
    or_false true b h = absurd (cc h)
    or_false false b h = (refl, h)

    first : picks choices p ≡ true → (only_choice (slice_index masks p.slot) p.choice ≡ slice_index masks p.slot) ⊎ (only_choice (slice_index masks p.slot) p.choice ≡ slice_index masks p.slot → ⊥)
        → picks others p ≡ true
    first here (inl e) =
        let long : p.slot < length masks = subst (λ n. p.slot < n) (length-are_left slots masks choices left) (slot_within choices p here) in
        let part : are_left slots (masks_with masks p) others ≡ true = rw (with_all masks p e) there in
        let both : (are_left slots masks others && picks others p) ≡ true = sym (left_with slots masks others p long) ∙ part in
        (and_parts (are_left slots masks others) (picks others p) both).1
    first here (inr other) =
        let long : p.slot < length masks = subst (λ n. p.slot < n) (length-are_left slots masks choices left) (slot_within choices p here) in
        let closed_here : is_open masks p ≡ false = (or_false (is_open masks p) (list_any (is_open masks) ps) closed).0 in
        absurd (other (eqb-true (only_choice (slice_index masks p.slot) p.choice) (slice_index masks p.slot) (forced long closed_here)))
      where
        forced : p.slot < length masks → is_open masks p ≡ false → nat_eq (only_choice (slice_index masks p.slot) p.choice) (slice_index masks p.slot) ≡ true
        forced long h = grind arith
