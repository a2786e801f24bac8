-- Labels of slots, such that slots which conflicts join have one label.
use Rattle.std.specs.Prelude.{◌≡◌, ℕ, Bool, true, false, nat_eq, List, [], ◌∷◌, length, map, slice_index_or}
use Rattle.std.specs.List.{list_all}
use Rattle.lv_base.specs.declared.search.Pair.{Pair}
use Rattle.lv_search_parts.specs.Slots.{is_inside}

-- the slot's label
abbrev pub label_at : List ℕ → ℕ → ℕ
label_at labels slot = slice_index_or labels slot 0

abbrev pub first_label : List ℕ → List Pair → ℕ
first_label labels [] = 0
first_label labels (p ∷ ps) = label_at labels p.slot

-- the slots with this label
abbrev pub label_marks : List ℕ → ℕ → List Bool
label_marks labels label = map (λ own. nat_eq own label) labels

-- whether a label is listed
abbrev pub is_listed : List Bool → ℕ → Bool
is_listed listed label = slice_index_or listed label false

-- the slots of all pairs have one label
abbrev pub has_one_label : List ℕ → List Pair → Bool
has_one_label labels pairs = is_inside (label_marks labels (first_label labels pairs)) pairs

pub record AreLabels (conflicts : List (List Pair)) (slots : ℕ) (labels : List ℕ) : Type 0 where
  pub long : length labels ≡ slots
  pub one : list_all (has_one_label labels) conflicts ≡ true
