-- Which members a zone has after a group of choices is left alone at a slot, or taken out, and what its parts have together.
use Rattle.std.proofs.Common.{◌≡◌, ℕ, suc, zero, ◌+◌, ◌<◌, ◌≤◌, Bool, true, false, not, nat_eq, nat_lt, ◌&&◌, ◌||◌, List, [], ◌∷◌, ◌++◌, length, drop, drop-cons, get_or, append-nil, refl, sym, ◌∙◌, ap, ap₂, ⊎_elim, add-one, arith}
use Rattle.std.specs.Prelude.{All, AllPairs, slice_index, slice_set}
use Rattle.std.specs.List.{list_any}
use Rattle.std.proofs.Math.ListN.{length-set, drop_of_length-le}
use Rattle.std.proofs.lemmas.Bool.{and_parts, and_from, or_cases, both_ways, eqb-true, ltb-true, false_from_ne_true, not-true}
use Rattle.std.proofs.lemmas.List.Elements.{All-nil, All-cons, All-weaker}
use Rattle.std.proofs.lemmas.List.Kept.{AllPairs-cons}
use Rattle.lv_base.specs.declared.ids.Cost.{Cost}
use Rattle.lv_base.specs.declared.search.Candidate.{Candidate}
use Rattle.lv_boxes.specs.Groups.{group_of, are_grouped, have_same_groups}
use Rattle.lv_boxes.specs.Masks.{has_choice, only_group, without_group}
use Rattle.lv_boxes.specs.Members.{ZoneValue, are_left, is_member}
use Rattle.lv_boxes.specs.Parts.{AreDisjoint, IsAlike}
use Rattle.lv_boxes.specs.GroupParts.{have_shape, masks_of_group, masks_of_others, parts_from, parts_by_groups, IsSplitByGroups}
use Rattle.lv_boxes.proofs.MaskLemmas.{has_choice-of_group, of_group_within, has_choice-of_others}
use Rattle.lv_boxes.proofs.PartsLemmas.{IsWithin, joined, nothing_left}

-- the choices left once the mask of a slot is another: those that pass what the new mask asks for there
set_left : (slots : List (List Cost)) (masks choices : List ℕ) (s new : ℕ) (b : Bool) → s < length masks
    → has_choice new (slice_index choices s) ≡ (has_choice (slice_index masks s) (slice_index choices s) && b)
    → are_left slots (slice_set masks s new) choices ≡ (are_left slots masks choices && b)
set_left slots [] choices s new b within asks = absurd (omega arith)
set_left [] (m ∷ ms) choices zero new b within asks = refl
set_left [] (m ∷ ms) choices (suc s) new b within asks = refl
set_left (costs ∷ slots) (m ∷ ms) [] zero new b within asks = refl
set_left (costs ∷ slots) (m ∷ ms) [] (suc s) new b within asks = refl
set_left (costs ∷ slots) (m ∷ ms) (c ∷ cs) zero new b within asks =
    ap (λ x. (nat_lt c (length costs) && x) && are_left slots ms cs) asks ∙ moved (nat_lt c (length costs)) (has_choice m c) b (are_left slots ms cs)
  where
    moved : (w x y z : Bool) → ((w && (x && y)) && z) ≡ (((w && x) && z) && y)
    moved false x y z = refl
    moved true false y z = refl
    moved true true true true = refl
    moved true true true false = refl
    moved true true false true = refl
    moved true true false false = refl
set_left (costs ∷ slots) (m ∷ ms) (c ∷ cs) (suc s) new b within asks =
    let fits : s < length ms = omega arith in
    ap (λ x. (nat_lt c (length costs) && has_choice m c) && x) (set_left slots ms cs s new b fits asks) ∙ moved (nat_lt c (length costs) && has_choice m c) (are_left slots ms cs) b
  where
    moved : (w x y : Bool) → (w && (x && y)) ≡ ((w && x) && y)
    moved false x y = refl
    moved true x y = refl

set_member : (slots : List (List Cost)) (zone : ZoneValue) (s new : ℕ) (b : Bool) (candidate : Candidate) → s < length zone.masks
    → has_choice new (slice_index candidate.choices s) ≡ (has_choice (slice_index zone.masks s) (slice_index candidate.choices s) && b)
    → is_member slots (record zone { masks = slice_set zone.masks s new }) candidate ≡ (is_member slots zone candidate && b)
set_member slots zone s new b candidate within asks =
    ap (λ x. nat_eq candidate.source zone.source && x) (set_left slots zone.masks candidate.choices s new b within asks)
    ∙ moved (nat_eq candidate.source zone.source) (are_left slots zone.masks candidate.choices) b
  where
    moved : (w x y : Bool) → (w && (x && y)) ≡ ((w && x) && y)
    moved false x y = refl
    moved true x y = refl

both_or_none : (part whole : Bool) → (part ≡ true → whole ≡ true) → part ≡ (whole && part)
both_or_none true whole h = sym (ap (λ x. x && true) (h refl))
both_or_none false true h = refl
both_or_none false false h = refl

not_both : (whole part : Bool) → (whole && not (whole && part)) ≡ (whole && not part)
not_both true part = refl
not_both false part = refl

module _ (slots : List (List Cost)) (candidate : Candidate) (zone : ZoneValue) (s : ℕ) (numbers : List ℕ) (group : ℕ) (here : s < length zone.masks) where
  abbrev mask : ℕ
  mask = slice_index zone.masks s

  abbrev chosen : ℕ
  chosen = slice_index candidate.choices s

  pub member_of_group : is_member slots (record zone { masks = masks_of_group zone.masks s numbers group }) candidate ≡ (is_member slots zone candidate && has_choice (only_group mask numbers group) chosen)
  member_of_group =
      set_member slots zone s (only_group mask numbers group) (has_choice (only_group mask numbers group) chosen) candidate here
      (both_or_none (has_choice (only_group mask numbers group) chosen) (has_choice mask chosen) (of_group_within mask numbers group chosen))

  pub member_of_others : is_member slots (record zone { masks = masks_of_others zone.masks s numbers group }) candidate
      ≡ (is_member slots zone candidate && not (has_choice (only_group mask numbers group) chosen))
  member_of_others =
      set_member slots zone s (without_group mask numbers group) (not (has_choice (only_group mask numbers group) chosen)) candidate here (has_choice-of_others mask numbers group chosen)

  module _ (grouped : chosen < length numbers) where
    pub in_group : is_member slots (record zone { masks = masks_of_group zone.masks s numbers group }) candidate ≡ (is_member slots zone candidate && nat_eq (group_of numbers chosen) group)
    in_group =
        set_member slots zone s (only_group mask numbers group) (nat_eq (group_of numbers chosen) group) candidate here (has_choice-of_group mask numbers group chosen grouped)

    pub in_others : is_member slots (record zone { masks = masks_of_others zone.masks s numbers group }) candidate ≡ (is_member slots zone candidate && not (nat_eq (group_of numbers chosen) group))
    in_others =
        set_member slots zone s (without_group mask numbers group) (not (nat_eq (group_of numbers chosen) group)) candidate here
        (has_choice-of_others mask numbers group chosen
        ∙ ap (λ x. has_choice mask chosen && not x) (has_choice-of_group mask numbers group chosen grouped)
        ∙ not_both (has_choice mask chosen) (nat_eq (group_of numbers chosen) group))

-- there are as many choices as slots
pub grouped_all : (groups : List (List ℕ)) (choices : List ℕ) → are_grouped groups choices ≡ true → length choices ≡ length groups
grouped_all [] [] h = refl
grouped_all [] (c ∷ cs) h = absurd (cc h)
grouped_all (numbers ∷ groups) [] h = absurd (cc h)
grouped_all (numbers ∷ groups) (c ∷ cs) h = ap suc (grouped_all groups cs (and_parts (nat_lt c (length numbers)) (are_grouped groups cs) h).1)

pub reaches : (choices : List ℕ) (s n : ℕ) → length (drop s choices) ≡ suc n → s < length choices
reaches [] zero n h = absurd (omega arith)
reaches [] (suc s) n h = absurd (omega arith)
reaches (c ∷ cs) zero n h = omega arith
reaches (c ∷ cs) (suc s) n h = let rest : s < length cs = reaches cs s n h in omega (arith, rest)

-- a member of the parts together is a member with other groups
exact_from : (slots : List (List Cost)) (candidate : Candidate) (s : ℕ) (zone : ZoneValue) (groups : List (List ℕ)) (member : List ℕ)
    → length zone.masks ≡ s + length groups → length member ≡ length groups → are_grouped groups (drop s candidate.choices) ≡ true
    → list_any (λ part. is_member slots part candidate) (parts_from zone s groups member) ≡ (is_member slots zone candidate && not (have_same_groups groups (drop s candidate.choices) member))
exact_from slots candidate s zone [] member len own grouped = nothing_left (is_member slots zone candidate)
exact_from slots candidate s zone (numbers ∷ groups) [] len own grouped = absurd (omega arith)
exact_from slots candidate s zone (numbers ∷ groups) (m ∷ ms) len own grouped =
    let here : s < length zone.masks = omega (arith, len) in
    let full : length (drop s candidate.choices) ≡ length (numbers ∷ groups) = grouped_all (numbers ∷ groups) (drop s candidate.choices) grouped in
    let there : s < length candidate.choices = reaches candidate.choices s (length groups) full in
    let chosen : ℕ = get_or candidate.choices s 0 in
    let begins : drop s candidate.choices ≡ chosen ∷ drop (s + 1) candidate.choices =
    drop-cons candidate.choices s 0 there ∙ ap (λ n. chosen ∷ drop n candidate.choices) (sym (add-one s))
    in
    let parts = and_parts (nat_lt chosen (length numbers)) (are_grouped groups (drop (s + 1) candidate.choices)) (sym (ap (are_grouped (numbers ∷ groups)) begins) ∙ grouped) in
    let same : length (masks_of_group zone.masks s numbers (group_of numbers m)) ≡ s + 1 + length groups = rw (length-set) (omega (arith, len)) in
    let fixed : ZoneValue = record zone { masks = masks_of_group zone.masks s numbers (group_of numbers m) } in
    let below : chosen < length numbers = ltb-true chosen (length numbers) parts.0 in
    ap₂ (λ (x y : Bool). x || y) (in_others slots candidate zone s numbers (group_of numbers m) here below)
    (exact_from slots candidate (s + 1) fixed groups ms same (omega (arith, own)) parts.1
    ∙ ap (λ x. x && not (have_same_groups groups (drop (s + 1) candidate.choices) ms)) (in_group slots candidate zone s numbers (group_of numbers m) here below))
    ∙ joined (is_member slots zone candidate) (nat_eq (group_of numbers chosen) (group_of numbers m)) (have_same_groups groups (drop (s + 1) candidate.choices) ms)
    ∙ ap (λ x. is_member slots zone candidate && not (have_same_groups (numbers ∷ groups) x (m ∷ ms))) (sym begins)

group_within : (zone : ZoneValue) (s : ℕ) (numbers : List ℕ) (group : ℕ) → s < length zone.masks → IsWithin zone (record zone { masks = masks_of_group zone.masks s numbers group })
group_within zone s numbers group here =
    record {
      inside =
          λ slots candidate h.
          (and_parts (is_member slots zone candidate) (has_choice (only_group (slice_index zone.masks s) numbers group) (slice_index candidate.choices s))
          (sym (member_of_group slots candidate zone s numbers group here) ∙ h)).0;
    }

others_within : (zone : ZoneValue) (s : ℕ) (numbers : List ℕ) (group : ℕ) → s < length zone.masks → IsWithin zone (record zone { masks = masks_of_others zone.masks s numbers group })
others_within zone s numbers group here =
    record {
      inside =
          λ slots candidate h.
          (and_parts (is_member slots zone candidate) (not (has_choice (only_group (slice_index zone.masks s) numbers group) (slice_index candidate.choices s)))
          (sym (member_of_others slots candidate zone s numbers group here) ∙ h)).0;
    }

-- each part's members are the zone's
parts_within : (s : ℕ) (zone : ZoneValue) (groups : List (List ℕ)) (member : List ℕ) → length zone.masks ≡ s + length groups → All (IsWithin zone) (parts_from zone s groups member)
parts_within s zone [] member len = All-nil (IsWithin zone)
parts_within s zone (numbers ∷ groups) [] len = All-nil (IsWithin zone)
parts_within s zone (numbers ∷ groups) (m ∷ ms) len =
    let here : s < length zone.masks = omega (arith, len) in
    let fixed : ZoneValue = record zone { masks = masks_of_group zone.masks s numbers (group_of numbers m) } in
    let same : length fixed.masks ≡ s + 1 + length groups = rw (length-set) (omega (arith, len)) in
    All-cons (IsWithin zone) (record zone { masks = masks_of_others zone.masks s numbers (group_of numbers m) }) (parts_from fixed (s + 1) groups ms)
    (others_within zone s numbers (group_of numbers m) here)
    (All-weaker (IsWithin fixed) (IsWithin zone)
    (λ part w. record { inside = λ slots candidate h. (group_within zone s numbers (group_of numbers m) here).inside slots candidate (w.inside slots candidate h) })
    (parts_from fixed (s + 1) groups ms) (parts_within (s + 1) fixed groups ms same))

-- no member is of the group and of another
apart : (zone : ZoneValue) (s : ℕ) (numbers : List ℕ) (group : ℕ) → s < length zone.masks
    → (part : ZoneValue) → IsWithin (record zone { masks = masks_of_group zone.masks s numbers group }) part → AreDisjoint (record zone { masks = masks_of_others zone.masks s numbers group }) part
apart zone s numbers group here part w slots candidate h =
    false_from_ne_true (is_member slots part candidate) (λ k.
    let b : Bool = has_choice (only_group (slice_index zone.masks s) numbers group) (slice_index candidate.choices s) in
    let lacks : not b ≡ true = (and_parts (is_member slots zone candidate) (not b) (sym (member_of_others slots candidate zone s numbers group here) ∙ h)).1 in
    let has : b ≡ true = (and_parts (is_member slots zone candidate) b (sym (member_of_group slots candidate zone s numbers group here) ∙ w.inside slots candidate k)).1 in
    both_ways b (not-true b lacks) has)

disjoint : (s : ℕ) (zone : ZoneValue) (groups : List (List ℕ)) (member : List ℕ) → length zone.masks ≡ s + length groups → AllPairs AreDisjoint (parts_from zone s groups member)
disjoint s zone [] member len = λ i j d h k. absurd (omega arith)
disjoint s zone (numbers ∷ groups) [] len = λ i j d h k. absurd (omega arith)
disjoint s zone (numbers ∷ groups) (m ∷ ms) len =
    let here : s < length zone.masks = omega (arith, len) in
    let fixed : ZoneValue = record zone { masks = masks_of_group zone.masks s numbers (group_of numbers m) } in
    let part : ZoneValue = record zone { masks = masks_of_others zone.masks s numbers (group_of numbers m) } in
    let same : length fixed.masks ≡ s + 1 + length groups = rw (length-set) (omega (arith, len)) in
    AllPairs-cons AreDisjoint part (parts_from fixed (s + 1) groups ms)
    (All-weaker (IsWithin fixed) (AreDisjoint part) (apart zone s numbers (group_of numbers m) here) (parts_from fixed (s + 1) groups ms) (parts_within (s + 1) fixed groups ms same))
    (disjoint (s + 1) fixed groups ms same)

alike : (zone changed : ZoneValue) (s : ℕ) (groups : List (List ℕ)) (member : List ℕ) → IsAlike zone changed → All (IsAlike zone) (parts_from changed s groups member)
alike zone changed s [] member same = All-nil (IsAlike zone)
alike zone changed s (numbers ∷ groups) [] same = All-nil (IsAlike zone)
alike zone changed s (numbers ∷ groups) (m ∷ ms) same =
    let fixed : ZoneValue = record changed { masks = masks_of_group changed.masks s numbers (group_of numbers m) } in
    All-cons (IsAlike zone) (record changed { masks = masks_of_others changed.masks s numbers (group_of numbers m) }) (parts_from fixed (s + 1) groups ms)
    (record { source = same.source; base = same.base; slots = rw (length-set) same.slots })
    (alike zone fixed (s + 1) groups ms (record { source = same.source; base = same.base; slots = rw (length-set) same.slots }))

-- what is in some of the parts is in the zone
inside_any : (slots : List (List Cost)) (candidate : Candidate) (s : ℕ) (zone : ZoneValue) (groups : List (List ℕ)) (member : List ℕ) → length zone.masks ≡ s + length groups
    → list_any (λ part. is_member slots part candidate) (parts_from zone s groups member) ≡ true → is_member slots zone candidate ≡ true
inside_any slots candidate s zone [] member len some = absurd (cc some)
inside_any slots candidate s zone (numbers ∷ groups) [] len some = absurd (cc some)
inside_any slots candidate s zone (numbers ∷ groups) (m ∷ ms) len some =
    let here : s < length zone.masks = omega (arith, len) in
    let fixed : ZoneValue = record zone { masks = masks_of_group zone.masks s numbers (group_of numbers m) } in
    let part : ZoneValue = record zone { masks = masks_of_others zone.masks s numbers (group_of numbers m) } in
    let same : length fixed.masks ≡ s + 1 + length groups = rw (length-set) (omega (arith, len)) in
    ⊎_elim ((others_within zone s numbers (group_of numbers m) here).inside slots candidate)
    (λ later. (group_within zone s numbers (group_of numbers m) here).inside slots candidate (inside_any slots candidate (s + 1) fixed groups ms same later))
    (or_cases (is_member slots part candidate) (list_any (λ part. is_member slots part candidate) (parts_from fixed (s + 1) groups ms)) some)

pub parts_are_split : (zone : ZoneValue) (groups : List (List ℕ)) (member : List ℕ) (zones : List ZoneValue) → zones ≡ parts_by_groups zone groups member
    → length groups ≡ length zone.masks → length member ≡ length groups → IsSplitByGroups zone groups member zones
parts_are_split zone groups member zones made len own =
    let all : length zone.masks ≡ 0 + length groups = omega (arith, len) in
    rw made record {
      alike = alike zone zone 0 groups member (record { source = refl; base = refl; slots = refl });
      disjoint = disjoint 0 zone groups member all;
      within = λ slots candidate some. inside_any slots candidate 0 zone groups member all some;
      exact = λ slots candidate grouped. exact_from slots candidate 0 zone groups member all own grouped;
    }

-- where no slot is left, the zones made are all
pub all_made : (zones : List ZoneValue) (rest : ZoneValue) (s : ℕ) (groups : List (List ℕ)) (member : List ℕ) (whole : List ZoneValue)
    → length groups ≤ s → zones ++ parts_from rest s (drop s groups) (drop s member) ≡ whole → zones ≡ whole
all_made zones rest s groups member whole past h =
    let none : drop s groups ≡ [] = drop_of_length-le groups past in
    let left : zones ++ parts_from rest s [] (drop s member) ≡ whole = rw none at h in
    sym (append-nil zones) ∙ left

-- a member of a zone with a group for each choice has groups
pub member_grouped : (slots : List (List Cost)) (groups : List (List ℕ)) (masks choices : List ℕ) → have_shape slots groups ≡ true → are_left slots masks choices ≡ true → are_grouped groups choices ≡ true
member_grouped [] [] [] [] shape left = refl
member_grouped [] [] [] (c ∷ cs) shape left = absurd (cc left)
member_grouped [] [] (m ∷ ms) choices shape left = absurd (cc left)
member_grouped [] (numbers ∷ groups) masks choices shape left = absurd (cc shape)
member_grouped (costs ∷ slots) [] masks choices shape left = absurd (cc shape)
member_grouped (costs ∷ slots) (numbers ∷ groups) [] choices shape left = absurd (cc left)
member_grouped (costs ∷ slots) (numbers ∷ groups) (m ∷ ms) [] shape left = absurd (cc left)
member_grouped (costs ∷ slots) (numbers ∷ groups) (m ∷ ms) (c ∷ cs) shape left =
    let same = and_parts (nat_eq (length costs) (length numbers)) (have_shape slots groups) shape in
    let parts = and_parts (nat_lt c (length costs) && has_choice m c) (are_left slots ms cs) left in
    let one = and_parts (nat_lt c (length costs)) (has_choice m c) parts.0 in
    and_from (nat_lt c (length numbers)) (are_grouped groups cs)
    (ap (λ n. nat_lt c n) (sym (eqb-true (length costs) (length numbers) same.0)) ∙ one.0)
    (member_grouped slots groups ms cs same.1 parts.1)

-- with other lengths they have not one shape
pub other_lengths : (slots : List (List Cost)) (groups : List (List ℕ)) → (length slots ≡ length groups → ⊥) → have_shape slots groups ≡ false
other_lengths [] [] other = absurd (other refl)
other_lengths [] (numbers ∷ groups) other = refl
other_lengths (costs ∷ slots) [] other = refl
other_lengths (costs ∷ slots) (numbers ∷ groups) other =
    ap (λ x. nat_eq (length costs) (length numbers) && x) (other_lengths slots groups (λ e. other (ap suc e))) ∙ and_none (nat_eq (length costs) (length numbers))
  where
    and_none : (b : Bool) → (b && false) ≡ false
    and_none true = refl
    and_none false = refl

-- with one shape they have one length
pub one_length : (slots : List (List Cost)) (groups : List (List ℕ)) → have_shape slots groups ≡ true → length slots ≡ length groups
one_length [] [] shape = refl
one_length [] (numbers ∷ groups) shape = absurd (cc shape)
one_length (costs ∷ slots) [] shape = absurd (cc shape)
one_length (costs ∷ slots) (numbers ∷ groups) shape = ap suc (one_length slots groups (and_parts (nat_eq (length costs) (length numbers)) (have_shape slots groups) shape).1)
