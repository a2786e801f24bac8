-- What a box leaves of conflicts, pair by pair and conflict by conflict.
use Rattle.std.proofs.Common.{◌≡◌, ℕ, zero, suc, ◌+◌, ◌<◌, ◌≤◌, Bool, true, false, nat_lt, nat_eq, ◌&&◌, ◌||◌, List, [], ◌∷◌, ◌++◌, length, take, drop, drop-cons, get_or, refl, sym, ◌∙◌, ap, subst, add-one, arith}
use Rattle.std.specs.Prelude.{slice_index, slice_set}
use Rattle.std.specs.List.{list_all}
use Rattle.std.proofs.Math.Seq.{take-suc}
use Rattle.std.proofs.lemmas.Bool.{and_from, and_parts, eqb-true, lt-ltb, ltb-true, false_from_ne_true}
use Rattle.std.proofs.lemmas.List.{take_all, set-get_or, append_assoc}
use Rattle.std.proofs.lemmas.List.Folds.{list_any-append, list_all-append}
use Rattle.lv_base.specs.declared.ids.Cost.{Cost}
use Rattle.lv_base.specs.declared.search.Pair.{Pair}
use Rattle.lv_base.specs.Choices.{picks, contains_all, slots_rise, slots_rise_from}
use Rattle.lv_boxes.specs.Masks.{has_choice, only_choice}
use Rattle.lv_boxes.specs.Members.{is_left, are_left}
use Rattle.lv_boxes.specs.Parts.{masks_with}
use Rattle.lv_boxes.proofs.PartsLemmas.{is_member-with}
use Rattle.lv_boxes.proofs.MemberLemmas.{length-are_left}
use Rattle.lv_boxes.specs.Walk.{is_ruled_out}
use Rattle.lv_search_parts.specs.Parts.{is_there, is_forced, IsOpenOf, IsLiveOf}

clash : (b : Bool) → b ≡ true → b ≡ false → ⊥
clash b p q = cc

-- each member has a forced pair's choice
forced_is_picked : (slots : List (List Cost)) (masks choices : List ℕ) (p : Pair) → is_forced masks p ≡ true → are_left slots masks choices ≡ true → picks choices p ≡ true
forced_is_picked slots masks choices p f left =
    let parts = and_parts (nat_lt p.slot (length masks)) (nat_eq (only_choice (slice_index masks p.slot) p.choice) (slice_index masks p.slot)) f in
    let within : p.slot < length masks = ltb-true p.slot (length masks) parts.0 in
    let all : only_choice (slice_index masks p.slot) p.choice ≡ slice_index masks p.slot = eqb-true (only_choice (slice_index masks p.slot) p.choice) (slice_index masks p.slot) parts.1 in
    let whole : masks_with masks p ≡ masks = ap (λ m. slice_set masks p.slot m) all ∙ set-get_or masks p.slot 0 in
    let part : are_left slots (masks_with masks p) choices ≡ true = rw whole left in
    (and_parts (are_left slots masks choices) (picks choices p)
    (sym (is_member-with slots (record { source = 0; base = record { 0 = 0 }; masks = masks }) p (record { source = 0; choices = choices }) within) ∙ part)).1

-- the box has what a member picks
there_at : (slots : List (List Cost)) (masks choices : List ℕ) (s : ℕ) → s < length choices → are_left slots masks choices ≡ true → has_choice (slice_index masks s) (slice_index choices s) ≡ true
there_at [] [] [] s within left = absurd (omega (arith, within))
there_at [] [] (choice ∷ choices) s within left = absurd (cc left)
there_at [] (mask ∷ masks) choices s within left = absurd (cc left)
there_at (costs ∷ slots) [] choices s within left = absurd (cc left)
there_at (costs ∷ slots) (mask ∷ masks) [] s within left = absurd (cc left)
there_at (costs ∷ slots) (mask ∷ masks) (choice ∷ choices) zero within left =
    (and_parts (nat_lt choice (length costs)) (has_choice mask choice) (and_parts (is_left costs mask choice) (are_left slots masks choices) left).0).1
there_at (costs ∷ slots) (mask ∷ masks) (choice ∷ choices) (suc s) within left =
    there_at slots masks choices s (omega (arith, within)) (and_parts (is_left costs mask choice) (are_left slots masks choices) left).1

picked_is_there : (slots : List (List Cost)) (masks choices : List ℕ) (p : Pair) → are_left slots masks choices ≡ true → picks choices p ≡ true → is_there masks p ≡ true
picked_is_there slots masks choices p left has =
    let parts = and_parts (nat_lt p.slot (length choices)) (nat_eq (slice_index choices p.slot) p.choice) has in
    let long : p.slot < length choices = ltb-true p.slot (length choices) parts.0 in
    let there : p.slot < length masks = subst (λ n. p.slot < n) (length-are_left slots masks choices left) long in
    and_from (nat_lt p.slot (length masks)) (has_choice (slice_index masks p.slot) p.choice) (lt-ltb p.slot (length masks) there)
    (subst (λ n. has_choice (slice_index masks p.slot) n ≡ true) (eqb-true (slice_index choices p.slot) p.choice parts.1) (there_at slots masks choices p.slot long left))

contained_are_there : (slots : List (List Cost)) (masks choices : List ℕ) (pairs : List Pair) → are_left slots masks choices ≡ true → contains_all choices pairs ≡ true → list_all (is_there masks) pairs ≡ true
contained_are_there slots masks choices [] left has = refl
contained_are_there slots masks choices (p ∷ ps) left has =
    let parts = and_parts (picks choices p) (contains_all choices ps) has in
    and_from (is_there masks p) (list_all (is_there masks) ps) (picked_is_there slots masks choices p left parts.0) (contained_are_there slots masks choices ps left parts.1)

-- slots that rise do so without one of them
rise_lower : (a b : ℕ) (pairs : List Pair) → b ≤ a → slots_rise_from a pairs ≡ true → slots_rise_from b pairs ≡ true
rise_lower a b [] less h = refl
rise_lower a b (p ∷ ps) less h =
    let parts = and_parts (nat_lt a (p.slot + 1)) (slots_rise_from (p.slot + 1) ps) h in
    let far : a < p.slot + 1 = ltb-true a (p.slot + 1) parts.0 in
    and_from (nat_lt b (p.slot + 1)) (slots_rise_from (p.slot + 1) ps) (lt-ltb b (p.slot + 1) (omega (arith, far, less))) parts.1

rise_less : (low : ℕ) (xs : List Pair) (p : Pair) (ys : List Pair) → slots_rise_from low (xs ++ p ∷ ys) ≡ true → slots_rise_from low (xs ++ ys) ≡ true
rise_less low [] p ys h =
    let parts = and_parts (nat_lt low (p.slot + 1)) (slots_rise_from (p.slot + 1) ys) h in
    let far : low < p.slot + 1 = ltb-true low (p.slot + 1) parts.0 in
    rise_lower (p.slot + 1) low ys (omega (arith, far)) parts.1
rise_less low (x ∷ xs) p ys h =
    let parts = and_parts (nat_lt low (x.slot + 1)) (slots_rise_from (x.slot + 1) (xs ++ p ∷ ys)) h in
    and_from (nat_lt low (x.slot + 1)) (slots_rise_from (x.slot + 1) (xs ++ ys)) parts.0 (rise_less (x.slot + 1) xs p ys parts.1)

-- one pair after the other
pub open_begins : (masks : List ℕ) (pairs : List Pair) → slots_rise pairs ≡ true → IsOpenOf masks pairs pairs
open_begins masks pairs rising = record { rising = rising; same = λ slots choices left. refl }

pub open_without : (masks : List ℕ) (pairs xs : List Pair) (p : Pair) (ys : List Pair) → is_forced masks p ≡ true → IsOpenOf masks pairs (xs ++ p ∷ ys) → IsOpenOf masks pairs (xs ++ ys)
open_without masks pairs xs p ys f o =
    record {
      rising = rise_less 0 xs p ys o.rising;
      same = λ slots choices left. less choices (forced_is_picked slots masks choices p f left) ∙ o.same slots choices left;
    }
  where
    less : (choices : List ℕ) → picks choices p ≡ true → contains_all choices (xs ++ ys) ≡ contains_all choices (xs ++ p ∷ ys)
    less choices has =
        list_all-append (picks choices) xs ys
        ∙ sym (list_all-append (picks choices) xs (p ∷ ys) ∙ ap (λ b. contains_all choices xs && (b && contains_all choices ys)) has)

pub open_pushed : (masks : List ℕ) (pairs left new : List Pair) (p : Pair) (rest : List Pair) → new ≡ left ++ p ∷ [] → IsOpenOf masks pairs (left ++ p ∷ rest) → IsOpenOf masks pairs (new ++ rest)
open_pushed masks pairs left new p rest is o =
    subst (λ (ps : List Pair). IsOpenOf masks pairs ps) (sym (ap (λ (ps : List Pair). ps ++ rest) is ∙ append_assoc left (p ∷ []) rest)) o

pub open_next : (masks : List ℕ) (pairs left new : List Pair) (i : ℕ) (d p : Pair) → i < length pairs → p ≡ get_or pairs i d
    → ((all rest : List Pair) → IsOpenOf masks all (left ++ p ∷ rest) → IsOpenOf masks all (new ++ rest)) → IsOpenOf masks pairs (left ++ drop i pairs) → IsOpenOf masks pairs (new ++ drop (i + 1) pairs)
open_next masks pairs left new i d p within is step o =
    subst (λ n. IsOpenOf masks pairs (new ++ drop n pairs)) (sym (add-one i))
    (step pairs (drop (suc i) pairs) (subst (λ (ps : List Pair). IsOpenOf masks pairs (left ++ ps)) (drop-cons pairs i d within ∙ ap (λ (q : Pair). q ∷ drop (suc i) pairs) (sym is)) o))

-- one conflict after the other
pub live_begins : (masks : List ℕ) → IsLiveOf [] masks []
live_begins masks = record { same = λ slots choices left. refl }

pub live_out : (conflicts : List (List Pair)) (masks : List ℕ) (live : List (List Pair)) (pairs : List Pair) → list_all (is_there masks) pairs ≡ false → IsLiveOf conflicts masks live → IsLiveOf (conflicts ++ pairs ∷ []) masks live
live_out conflicts masks live pairs out l =
    record { same = λ slots choices left. l.same slots choices left ∙ sym (more slots choices left) }
  where
    more : (slots : List (List Cost)) (choices : List ℕ) → are_left slots masks choices ≡ true → is_ruled_out (conflicts ++ pairs ∷ []) choices ≡ is_ruled_out conflicts choices
    more slots choices left =
        let lacks : contains_all choices pairs ≡ false = false_from_ne_true (contains_all choices pairs) (λ has. clash _ (contained_are_there slots masks choices pairs left has) out) in
        list_any-append (contains_all choices) conflicts (pairs ∷ []) ∙ ap (λ b. is_ruled_out conflicts choices || (b || false)) lacks ∙ or_false (is_ruled_out conflicts choices)
      where
        or_false : (b : Bool) → (b || (false || false)) ≡ b
        or_false true = refl
        or_false false = refl

pub live_more : (conflicts : List (List Pair)) (masks : List ℕ) (live : List (List Pair)) (pairs left : List Pair) → IsOpenOf masks pairs left → IsLiveOf conflicts masks live
    → IsLiveOf (conflicts ++ pairs ∷ []) masks (live ++ left ∷ [])
live_more conflicts masks live pairs left o l =
    record {
      same = λ slots choices there.
          list_any-append (contains_all choices) live (left ∷ [])
          ∙ (λ i. l.same slots choices there i || (o.same slots choices there i || false))
          ∙ sym (list_any-append (contains_all choices) conflicts (pairs ∷ []));
    }

pub live_next : (conflicts : List (List Pair)) (i : ℕ) (d pairs : List Pair) (masks : List ℕ) (old new : List (List Pair)) → i < length conflicts → pairs ≡ get_or conflicts i d
    → ((ks : List (List Pair)) → IsLiveOf ks masks old → IsLiveOf (ks ++ pairs ∷ []) masks new) → IsLiveOf (take i conflicts) masks old → IsLiveOf (take (i + 1) conflicts) masks new
live_next conflicts i d pairs masks old new within is step l =
    subst (λ (ks : List (List Pair)). IsLiveOf ks masks new) (sym (ap (λ n. take n conflicts) (add-one i) ∙ take-suc conflicts i d within))
    (subst (λ (ps : List Pair). IsLiveOf (take i conflicts ++ ps ∷ []) masks new) is (step (take i conflicts) l))

pub live_ends : (conflicts : List (List Pair)) (i : ℕ) (masks : List ℕ) (live : List (List Pair)) → length conflicts ≤ i → IsLiveOf (take i conflicts) masks live → IsLiveOf conflicts masks live
live_ends conflicts i masks live past l = subst (λ (ks : List (List Pair)). IsLiveOf ks masks live) (take_all i conflicts past) l
