-- Boxes: of each slot the choices left, as a mask. Which of their members contain none of some conflicts, and what these cost.
use Rattle.std.specs.Prelude.{◌≡◌, ℕ, ◌≤◌, Bool, true, false, not, nat_lt, nat_eq, ◌&&◌, List, length, slice_index}
use Rattle.lv_base.specs.declared.ids.Cost.{Cost}
use Rattle.lv_base.specs.declared.search.Pair.{Pair}
use Rattle.lv_boxes.specs.Masks.{has_choice, only_choice}
use Rattle.lv_boxes.specs.Members.{are_left, choices_cost}
use Rattle.lv_boxes.specs.Walk.{is_ruled_out}

-- choices that are left and contain none of the conflicts: a free member of the box
abbrev pub is_free : List (List Cost) → List (List Pair) → List ℕ → List ℕ → Bool
is_free slots conflicts masks choices = are_left slots masks choices && not (is_ruled_out conflicts choices)

-- no free member costs less than this
pub record CostsAtLeast (slots : List (List Cost)) (conflicts : List (List Pair)) (masks : List ℕ) (low : ℕ) : Type 0 where
  pub least : (choices : List ℕ) → is_free slots conflicts masks choices ≡ true → low ≤ choices_cost slots choices

-- the box has no free member
pub record HasNone (slots : List (List Cost)) (conflicts : List (List Pair)) (masks : List ℕ) : Type 0 where
  pub none : (choices : List ℕ) → is_free slots conflicts masks choices ≡ false

-- the pair's choice is not all that its slot has left
abbrev pub is_open : List ℕ → Pair → Bool
is_open masks p = nat_lt p.slot (length masks) && not (nat_eq (only_choice (slice_index masks p.slot) p.choice) (slice_index masks p.slot))

-- the box has the pair's choice
abbrev pub has_left : List ℕ → Pair → Bool
has_left masks p = nat_lt p.slot (length masks) && has_choice (slice_index masks p.slot) p.choice
