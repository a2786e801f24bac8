-- All choices of a member as a conflict: only that member contains it.
use Rattle.std.proofs.Common.{◌≡◌, ◌≢◌, ℕ, suc, ◌+◌, ◌-◌, ◌<◌, ◌≤◌, true, false, not, nat_lt, ◌&&◌, List, [], ◌∷◌, ◌++◌, append-nil, length, get_or, drop, refl, sym, ◌∙◌, ap, arith, add-one, drop-cons, length-drop}
use Rattle.std.specs.List.{list_all, list_any}
use Rattle.std.proofs.Math.ListN.{drop_of_length-le}
use Rattle.std.proofs.lemmas.Bool.{false_from_ne_true}
use Rattle.lv_base.specs.declared.ids.Cost.{Cost}
use Rattle.lv_base.specs.declared.search.Candidate.{Candidate}
use Rattle.lv_base.specs.declared.search.Pair.{Pair}
use Rattle.lv_base.specs.Choices.{contains_all, slots_rise_from}
use Rattle.lv_boxes.specs.Members.{ZoneValue, are_left, is_member}
use Rattle.lv_boxes.specs.Parts.{parts_of}
use Rattle.lv_boxes.specs.Laws.{pairs_from, pairs_of, LosesOne}
use Rattle.lv_boxes.proofs.PartsLemmas.{parts_are_split}

-- there is one choice for each mask
pub length-are_left : (slots : List (List Cost)) (masks choices : List ℕ) → are_left slots masks choices ≡ true → length choices ≡ length masks
length-are_left [] [] [] h = refl
length-are_left [] [] (choice ∷ choices) h = absurd (cc h)
length-are_left [] (mask ∷ masks) [] h = absurd (cc h)
length-are_left [] (mask ∷ masks) (choice ∷ choices) h = absurd (cc h)
length-are_left (costs ∷ slots) [] [] h = absurd (cc h)
length-are_left (costs ∷ slots) [] (choice ∷ choices) h = absurd (cc h)
length-are_left (costs ∷ slots) (mask ∷ masks) [] h = absurd (cc h)
length-are_left (costs ∷ slots) (mask ∷ masks) (choice ∷ choices) h =
    let rest : are_left slots masks choices ≡ true = grind arith in
    let same : length choices ≡ length masks = length-are_left slots masks choices rest in
    omega arith

pub pairs_rise : (n : ℕ) (choices : List ℕ) → slots_rise_from n (pairs_from n choices) ≡ true
pairs_rise n [] = refl
pairs_rise n (choice ∷ choices) = rw (pairs_rise (n + 1) choices) (grind arith)

pairs_within : (m n : ℕ) (choices : List ℕ) → n + length choices ≤ m → list_all (λ p. nat_lt p.slot m) (pairs_from n choices) ≡ true
pairs_within m n [] fits = refl
pairs_within m n (choice ∷ choices) fits = rw (pairs_within m (n + 1) choices (omega arith)) (grind arith)

-- a list has its own choices
has_own : (whole : List ℕ) (n : ℕ) (choices : List ℕ) → drop n whole ≡ choices → contains_all whole (pairs_from n choices) ≡ true
has_own whole n [] e = refl
has_own whole n (choice ∷ choices) e =
    let left : length whole - n ≡ suc (length choices) = sym (length-drop n whole) ∙ ap length e in
    let within : n < length whole = omega arith in
    let split : drop n whole ≡ get_or whole n 0 ∷ drop (suc n) whole = drop-cons whole n 0 within in
    let here : get_or whole n 0 ≡ choice = cc in
    let later : drop (suc n) whole ≡ choices = cc in
    let rest : contains_all whole (pairs_from (n + 1) choices) ≡ true = has_own whole (n + 1) choices (rw add-one later) in
    rw (rest, here) (grind arith)

-- and of its length no other has them
only_own : (whole : List ℕ) (n : ℕ) (choices : List ℕ) → n + length choices ≡ length whole → contains_all whole (pairs_from n choices) ≡ true → drop n whole ≡ choices
only_own whole n [] len h = drop_of_length-le whole (omega arith)
only_own whole n (choice ∷ choices) len h =
    let within : n < length whole = omega arith in
    let here : get_or whole n 0 ≡ choice = grind arith in
    let rest : contains_all whole (pairs_from (n + 1) choices) ≡ true = grind arith in
    let later : drop (n + 1) whole ≡ choices = only_own whole (n + 1) choices (omega arith) rest in
    rw (drop-cons whole n 0 within, here, ← add-one n, later) refl

pub loses_one : (slots : List (List Cost)) (zone : ZoneValue) (member : Candidate) → is_member slots zone member ≡ true → LosesOne slots zone member
loses_one slots zone member h = record { rise = pairs_rise 0 member.choices; within = within; lost = lost; kept = kept }
  where
    left : are_left slots zone.masks member.choices ≡ true
    left = grind arith

    len : length member.choices ≡ length zone.masks
    len = length-are_left slots zone.masks member.choices left

    within : list_all (λ p. nat_lt p.slot (length zone.masks)) (pairs_of member.choices) ≡ true
    within = pairs_within (length zone.masks) 0 member.choices (omega (arith, len))

    exact : (other : Candidate) → list_any (λ part. is_member slots part other) (parts_of zone (pairs_of member.choices)) ≡ (is_member slots zone other && not (contains_all other.choices (pairs_of member.choices)))
    exact other = (parts_are_split zone (pairs_of member.choices) (parts_of zone (pairs_of member.choices)) refl within).exact slots other

    lost : list_any (λ part. is_member slots part member) (parts_of zone (pairs_of member.choices)) ≡ false
    lost = rw (exact member, has_own member.choices 0 member.choices refl) (grind arith)

    kept : (other : Candidate) → is_member slots zone other ≡ true → other ≢ member → list_any (λ part. is_member slots part other) (parts_of zone (pairs_of member.choices)) ≡ true
    kept other k apart =
        let misses : contains_all other.choices (pairs_of member.choices) ≡ false = false_from_ne_true _ (λ all. apart (same other k all)) in
        rw (exact other, k, misses) refl
      where
        same : (other : Candidate) → is_member slots zone other ≡ true → contains_all other.choices (pairs_of member.choices) ≡ true → other ≡ member
        same other k all =
            let left_too : are_left slots zone.masks other.choices ≡ true = grind arith in
            let len_too : length other.choices ≡ length zone.masks = length-are_left slots zone.masks other.choices left_too in
            let choices : other.choices ≡ member.choices = only_own other.choices 0 member.choices (omega (arith, len)) all in
            let source : other.source ≡ member.source = grind arith in
            λ i. record { source = source i; choices = choices i }

-- where no choice is left, the pairs made are all
pub all_paired : (made : List Pair) (n : ℕ) (choices : List ℕ) → length choices ≤ n → made ++ pairs_from n (drop n choices) ≡ pairs_of choices → made ≡ pairs_of choices
all_paired made n choices past h =
    let none : drop n choices ≡ [] = drop_of_length-le choices past in
    let left : made ++ pairs_from n [] ≡ pairs_of choices = rw none at h in
    sym (append-nil made) ∙ left
