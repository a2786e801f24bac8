-- Labels of slots, as marks.
use Rattle.std.proofs.Common.{◌≡◌, ℕ, zero, suc, ◌<◌, ◌≤◌, Bool, true, false, not, nat_lt, nat_eq, List, [], ◌∷◌, length, map, get_or, refl, sym, ◌∙◌, ap, arith}
use Rattle.std.specs.List.{list_all}
use Rattle.std.proofs.lemmas.Bool.{and_from, and_parts, or_left, or_right, eqb-true, ltb-true, false_from_ne_true}
use Rattle.lv_base.specs.declared.search.Pair.{Pair}
use Rattle.lv_search_parts.specs.Slots.{is_marked, is_inside, is_outside}
use Rattle.lv_search_parts.specs.Parts.{is_whole, IsPart}
use Rattle.lv_search_parts.specs.Labels.{first_label, label_marks, has_one_label, AreLabels}

-- a label as the code reads it
pub label_here : (labels : List ℕ) (slot label d : ℕ) → slot < length labels → nat_eq (get_or labels slot d) label ≡ is_marked (label_marks labels label) slot
label_here [] slot label d within = absurd (omega (arith, within))
label_here (own ∷ labels) zero label d within = refl
label_here (own ∷ labels) (suc slot) label d within = label_here labels slot label d (omega (arith, within))

past_marks : (labels : List ℕ) (slot label : ℕ) → length labels ≤ slot → is_marked (label_marks labels label) slot ≡ false
past_marks [] slot label past = refl
past_marks (own ∷ labels) zero label past = absurd (omega (arith, past))
past_marks (own ∷ labels) (suc slot) label past = past_marks labels slot label (omega (arith, past))

pub label_past : (labels : List ℕ) (slot label : ℕ) → length labels ≤ slot → nat_lt slot (length labels) ≡ is_marked (label_marks labels label) slot
label_past labels slot label past =
    false_from_ne_true (nat_lt slot (length labels)) (λ less. let below : slot < length labels = ltb-true slot (length labels) less in absurd (omega (arith, below, past)))
    ∙ sym (past_marks labels slot label past)

-- where all slots of the pairs have one label, marks by labels are all that label's
marked_by : (f : ℕ → Bool) (labels : List ℕ) (label slot : ℕ) → is_marked (label_marks labels label) slot ≡ true → is_marked (map f labels) slot ≡ f label
marked_by f [] label slot has = absurd (cc has)
marked_by f (own ∷ labels) label zero has = ap f (eqb-true own label has)
marked_by f (own ∷ labels) label (suc slot) has = marked_by f labels label slot has

inside_by : (f : ℕ → Bool) (labels : List ℕ) (label : ℕ) (pairs : List Pair) → f label ≡ true → is_inside (label_marks labels label) pairs ≡ true → is_inside (map f labels) pairs ≡ true
inside_by f labels label [] is has = refl
inside_by f labels label (p ∷ ps) is has =
    let parts = and_parts (is_marked (label_marks labels label) p.slot) (is_inside (label_marks labels label) ps) has in
    and_from (is_marked (map f labels) p.slot) (is_inside (map f labels) ps) (marked_by f labels label p.slot parts.0 ∙ is) (inside_by f labels label ps is parts.1)

outside_by : (f : ℕ → Bool) (labels : List ℕ) (label : ℕ) (pairs : List Pair) → f label ≡ false → is_inside (label_marks labels label) pairs ≡ true → is_outside (map f labels) pairs ≡ true
outside_by f labels label [] is has = refl
outside_by f labels label (p ∷ ps) is has =
    let parts = and_parts (is_marked (label_marks labels label) p.slot) (is_inside (label_marks labels label) ps) has in
    and_from (not (is_marked (map f labels) p.slot)) (is_outside (map f labels) ps) (ap not (marked_by f labels label p.slot parts.0 ∙ is)) (outside_by f labels label ps is parts.1)

whole_by : (f : ℕ → Bool) (labels : List ℕ) (pairs : List Pair) → has_one_label labels pairs ≡ true → is_whole (map f labels) pairs ≡ true
whole_by f labels pairs has = by (f (first_label labels pairs)) refl
  where
    by : (b : Bool) → f (first_label labels pairs) ≡ b → is_whole (map f labels) pairs ≡ true
    by true is = or_left (is_inside (map f labels) pairs) (is_outside (map f labels) pairs) (inside_by f labels (first_label labels pairs) pairs is has)
    by false is = or_right (is_inside (map f labels) pairs) (is_outside (map f labels) pairs) (outside_by f labels (first_label labels pairs) pairs is has)

all_whole : (f : ℕ → Bool) (labels : List ℕ) (conflicts : List (List Pair)) → list_all (has_one_label labels) conflicts ≡ true → list_all (is_whole (map f labels)) conflicts ≡ true
all_whole f labels [] all = refl
all_whole f labels (k ∷ ks) all =
    let parts = and_parts (has_one_label labels k) (list_all (has_one_label labels) ks) all in
    and_from (is_whole (map f labels) k) (list_all (is_whole (map f labels)) ks) (whole_by f labels k parts.0) (all_whole f labels ks parts.1)

length_marks : (f : ℕ → Bool) (labels : List ℕ) → length (map f labels) ≡ length labels
length_marks f [] = refl
length_marks f (own ∷ labels) = ap suc (length_marks f labels)

-- the slots with some labels are a part
pub part_by_labels : (f : ℕ → Bool) (conflicts : List (List Pair)) (slots : ℕ) (labels : List ℕ) → AreLabels conflicts slots labels → IsPart conflicts slots (map f labels)
part_by_labels f conflicts slots labels are = record { long = length_marks f labels ∙ are.long; whole = all_whole f labels conflicts are.one }
