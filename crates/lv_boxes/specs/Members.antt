-- The members of a zone: the candidates that come from its tracked state and keep to the choices left at each slot.
use Rattle.std.specs.Prelude.{ℕ, ◌+◌, ◌≤◌, Bool, true, false, nat_eq, nat_lt, ◌&&◌, List, [], ◌∷◌, length, slice_index_or, All}
use Rattle.lv_base.specs.declared.ids.Cost.{Cost}
use Rattle.lv_base.specs.declared.rank.Rank.{Rank}
use Rattle.lv_base.specs.declared.search.Candidate.{Candidate}
use Rattle.lv_boxes.specs.Masks.{has_choice}

-- the costs of a slot's choices, as a grid accepts them
pub record IsSlot (costs : List Cost) : Type 0 where
  pub some : 1 ≤ length costs
  pub few : length costs ≤ 64
  pub cheap : All (λ cost. cost.0 ≤ 1000000) costs

-- a zone as contracts see it: the tracked state that its members come from, what that state costs, and of each slot
-- the choices left
pub record ZoneValue : Type 0 where
  pub source : ℕ
  pub base : Cost
  pub masks : List ℕ

-- a choice of a slot with these costs that the mask has
abbrev pub is_left : List Cost → ℕ → ℕ → Bool
is_left costs mask choice = nat_lt choice (length costs) && has_choice mask choice

-- one choice that is left for each slot, and one mask
abbrev pub are_left : List (List Cost) → List ℕ → List ℕ → Bool
are_left [] [] [] = true
are_left (costs ∷ slots) (mask ∷ masks) (choice ∷ choices) = is_left costs mask choice && are_left slots masks choices
are_left _ _ _ = false

abbrev pub is_member : List (List Cost) → ZoneValue → Candidate → Bool
is_member slots zone candidate = nat_eq candidate.source zone.source && are_left slots zone.masks candidate.choices

-- what a choice costs
abbrev pub choice_cost : List Cost → ℕ → ℕ
choice_cost costs choice = (slice_index_or costs choice (record { 0 = 0 })).0

-- what a choice at each slot costs together
abbrev pub choices_cost : List (List Cost) → List ℕ → ℕ
choices_cost (costs ∷ slots) (choice ∷ choices) = choice_cost costs choice + choices_cost slots choices
choices_cost _ _ = 0

-- what these choices are ranked by as a member of the zone
abbrev pub rank_in : List (List Cost) → ZoneValue → List ℕ → Rank
rank_in slots zone choices = record { cost = record { 0 = zone.base.0 + choices_cost slots choices }; source = zone.source; choices = choices }
