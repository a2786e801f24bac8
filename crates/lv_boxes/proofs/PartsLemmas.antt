-- Which members a zone has after a choice is fixed or excluded, and what its parts have together.
use Rattle.std.proofs.Common.{◌≡◌, ℕ, suc, zero, ◌<◌, ◌≤◌, Bool, true, false, not, nat_lt, ◌&&◌, ◌||◌, List, [], ◌∷◌, ◌++◌, length, drop, append-nil, refl, sym, ◌∙◌, arith}
use Rattle.std.specs.Prelude.{All, AllPairs}
use Rattle.std.specs.List.{list_all, list_any}
use Rattle.std.proofs.Math.ListN.{length-set, drop_of_length-le}
use Rattle.std.proofs.lemmas.Bool.{false_from_ne_true}
use Rattle.std.proofs.lemmas.List.Elements.{All-nil, All-cons, All-weaker}
use Rattle.std.proofs.lemmas.List.Kept.{AllPairs-cons}
use Rattle.lv_base.specs.declared.ids.Cost.{Cost}
use Rattle.lv_base.specs.declared.search.Pair.{Pair}
use Rattle.lv_base.specs.declared.search.Candidate.{Candidate}
use Rattle.lv_base.specs.Choices.{picks, contains_all}
use Rattle.lv_boxes.specs.Members.{ZoneValue, are_left, is_member}
use Rattle.lv_boxes.specs.Parts.{masks_with, masks_without, parts_of, are_slots_of, AreDisjoint, IsAlike, IsSplit}
use Rattle.lv_boxes.proofs.MaskLemmas.{has_choice-only, has_choice-without}

-- the choices left once one is fixed: those that have it
are_left-with : (slots : List (List Cost)) (masks choices : List ℕ) (s k : ℕ) → s < length masks
    → are_left slots (masks_with masks (record { slot = s; choice = k })) choices ≡ (are_left slots masks choices && picks choices (record { slot = s; choice = k }))
are_left-with slots [] choices s k within = absurd (omega arith)
are_left-with [] (m ∷ ms) choices zero k within = refl
are_left-with [] (m ∷ ms) choices (suc s) k within = refl
are_left-with (costs ∷ slots) (m ∷ ms) [] zero k within = refl
are_left-with (costs ∷ slots) (m ∷ ms) [] (suc s) k within = refl
are_left-with (costs ∷ slots) (m ∷ ms) (c ∷ cs) zero k within = rw (has_choice-only m k c) (grind arith)
are_left-with (costs ∷ slots) (m ∷ ms) (c ∷ cs) (suc s) k within =
    let fits : s < length ms = omega arith in
    rw (are_left-with slots ms cs s k fits) (grind arith)

-- and once one is excluded: those that haven't it
are_left-without : (slots : List (List Cost)) (masks choices : List ℕ) (s k : ℕ) → s < length masks
    → are_left slots (masks_without masks (record { slot = s; choice = k })) choices ≡ (are_left slots masks choices && not (picks choices (record { slot = s; choice = k })))
are_left-without slots [] choices s k within = absurd (omega arith)
are_left-without [] (m ∷ ms) choices zero k within = refl
are_left-without [] (m ∷ ms) choices (suc s) k within = refl
are_left-without (costs ∷ slots) (m ∷ ms) [] zero k within = refl
are_left-without (costs ∷ slots) (m ∷ ms) [] (suc s) k within = refl
are_left-without (costs ∷ slots) (m ∷ ms) (c ∷ cs) zero k within = rw (has_choice-without m k c) (grind arith)
are_left-without (costs ∷ slots) (m ∷ ms) (c ∷ cs) (suc s) k within =
    let fits : s < length ms = omega arith in
    rw (are_left-without slots ms cs s k fits) (grind arith)

pub is_member-with : (slots : List (List Cost)) (zone : ZoneValue) (p : Pair) (candidate : Candidate) → p.slot < length zone.masks
    → is_member slots (record zone { masks = masks_with zone.masks p }) candidate ≡ (is_member slots zone candidate && picks candidate.choices p)
is_member-with slots zone p candidate within =
    rw (are_left-with slots zone.masks candidate.choices p.slot p.choice within) (grind arith)

pub is_member-without : (slots : List (List Cost)) (zone : ZoneValue) (p : Pair) (candidate : Candidate) → p.slot < length zone.masks
    → is_member slots (record zone { masks = masks_without zone.masks p }) candidate ≡ (is_member slots zone candidate && not (picks candidate.choices p))
is_member-without slots zone p candidate within =
    rw (are_left-without slots zone.masks candidate.choices p.slot p.choice within) (grind arith)

-- the slots of a list of pairs are below n
abbrev are_below : ℕ → List Pair → Bool
are_below n pairs = list_all (λ p. nat_lt p.slot n) pairs

pub joined : (member picked rest : Bool) → ((member && not picked) || ((member && picked) && not rest)) ≡ (member && not (picked && rest))
joined true true rest = refl
joined true false rest = refl
joined false picked rest = refl

pub nothing_left : (member : Bool) → false ≡ (member && not true)
nothing_left true = refl
nothing_left false = refl

-- a member of the parts together is a member that doesn't have all the pairs
exact : (slots : List (List Cost)) (candidate : Candidate) (n : ℕ) (zone : ZoneValue) (pairs : List Pair)
    → length zone.masks ≡ n → are_below n pairs ≡ true
    → list_any (λ part. is_member slots part candidate) (parts_of zone pairs) ≡ (is_member slots zone candidate && not (contains_all candidate.choices pairs))
exact slots candidate n zone [] len below = nothing_left (is_member slots zone candidate)
exact slots candidate n zone (p ∷ ps) len below =
    let here : p.slot < length zone.masks = grind arith in
    let later : are_below n ps ≡ true = grind arith in
    let same : length (masks_with zone.masks p) ≡ n = rw (length-set) len in
    rw (exact slots candidate n (record zone { masks = masks_with zone.masks p }) ps same later, is_member-without slots zone p candidate here, is_member-with slots zone p candidate here)
    (joined (is_member slots zone candidate) (picks candidate.choices p) (contains_all candidate.choices ps))

-- the members of a zone are among those of another
pub record IsWithin (zone part : ZoneValue) : Type 0 where
  pub inside : (slots : List (List Cost)) (candidate : Candidate) → is_member slots part candidate ≡ true → is_member slots zone candidate ≡ true

left_true : (a b : Bool) → (a && b) ≡ true → a ≡ true
left_true true b h = refl
left_true false b h = (cc)

right_true : (a b : Bool) → (a && b) ≡ true → b ≡ true
right_true true b h = h
right_true false b h = absurd (cc)

with_within : (zone : ZoneValue) (p : Pair) → p.slot < length zone.masks → IsWithin zone (record zone { masks = masks_with zone.masks p })
with_within zone p here =
    record { inside = λ slots candidate h. left_true _ (picks candidate.choices p) (sym (is_member-with slots zone p candidate here) ∙ h) }

without_within : (zone : ZoneValue) (p : Pair) → p.slot < length zone.masks → IsWithin zone (record zone { masks = masks_without zone.masks p })
without_within zone p here =
    record { inside = λ slots candidate h. left_true _ (not (picks candidate.choices p)) (sym (is_member-without slots zone p candidate here) ∙ h) }

-- each part's members are the zone's
parts_within : (n : ℕ) (zone : ZoneValue) (pairs : List Pair) → length zone.masks ≡ n → are_below n pairs ≡ true → All (IsWithin zone) (parts_of zone pairs)
parts_within n zone [] len below = All-nil (IsWithin zone)
parts_within n zone (p ∷ ps) len below =
    let here : p.slot < length zone.masks = grind arith in
    let later : are_below n ps ≡ true = grind arith in
    let same : length (masks_with zone.masks p) ≡ n = rw (length-set) len in
    let fixed : ZoneValue = record zone { masks = masks_with zone.masks p } in
    All-cons (IsWithin zone) _ _ (without_within zone p here)
    (All-weaker (IsWithin fixed) (IsWithin zone) (λ part w. record { inside = λ slots candidate h. (with_within zone p here).inside slots candidate (w.inside slots candidate h) }) (parts_of fixed ps) (parts_within n fixed ps same later))

-- no member has the pair and lacks it
apart : (zone : ZoneValue) (p : Pair) → p.slot < length zone.masks
    → (part : ZoneValue) → IsWithin (record zone { masks = masks_with zone.masks p }) part → AreDisjoint (record zone { masks = masks_without zone.masks p }) part
apart zone p here part w slots candidate h =
    false_from_ne_true _ (λ k.
    let lacks : not (picks candidate.choices p) ≡ true = right_true (is_member slots zone candidate) _ (sym (is_member-without slots zone p candidate here) ∙ h) in
    let has : picks candidate.choices p ≡ true = right_true (is_member slots zone candidate) _ (sym (is_member-with slots zone p candidate here) ∙ w.inside slots candidate k) in
    let lacks_not : not true ≡ true = rw has at lacks in
    absurd (cc lacks_not))

disjoint : (n : ℕ) (zone : ZoneValue) (pairs : List Pair) → length zone.masks ≡ n → are_below n pairs ≡ true → AllPairs AreDisjoint (parts_of zone pairs)
disjoint n zone [] len below = λ i j d h k. absurd (omega arith)
disjoint n zone (p ∷ ps) len below =
    let here : p.slot < length zone.masks = grind arith in
    let later : are_below n ps ≡ true = grind arith in
    let same : length (masks_with zone.masks p) ≡ n = rw (length-set) len in
    let fixed : ZoneValue = record zone { masks = masks_with zone.masks p } in
    let part : ZoneValue = record zone { masks = masks_without zone.masks p } in
    AllPairs-cons AreDisjoint part (parts_of fixed ps)
    (All-weaker (IsWithin fixed) (AreDisjoint part) (apart zone p here) (parts_of fixed ps) (parts_within n fixed ps same later))
    (disjoint n fixed ps same later)

-- each part is like the zone
alike : (zone changed : ZoneValue) (pairs : List Pair) → IsAlike zone changed → All (IsAlike zone) (parts_of changed pairs)
alike zone changed [] same = All-nil (IsAlike zone)
alike zone changed (p ∷ ps) same =
    All-cons (IsAlike zone) _ _
    (record { source = same.source; base = same.base; slots = rw (length-set) same.slots })
    (alike zone (record changed { masks = masks_with changed.masks p }) ps (record { source = same.source; base = same.base; slots = rw (length-set) same.slots }))

pub parts_are_split : (zone : ZoneValue) (pairs : List Pair) (zones : List ZoneValue) → zones ≡ parts_of zone pairs → are_slots_of zone pairs ≡ true → IsSplit zone pairs zones
parts_are_split zone pairs zones made below =
    rw made record {
      alike = alike zone zone pairs (record { source = refl; base = refl; slots = refl });
      disjoint = disjoint (length zone.masks) zone pairs refl below;
      exact = λ slots candidate. exact slots candidate (length zone.masks) zone pairs refl below;
    }

-- where no pair is left, the zones made are all
pub all_made : (zones : List ZoneValue) (rest : ZoneValue) (pairs : List Pair) (i : ℕ) (whole : List ZoneValue)
    → length pairs ≤ i → zones ++ parts_of rest (drop i pairs) ≡ whole → zones ≡ whole
all_made zones rest pairs i whole past h =
    let none : drop i pairs ≡ [] = drop_of_length-le pairs past in
    let left : zones ++ parts_of rest [] ≡ whole = rw none at h in
    sym (append-nil zones) ∙ left
