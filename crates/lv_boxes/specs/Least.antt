-- The member of a zone that ranks first, and the zones that have none.
use Rattle.std.specs.Prelude.{◌≡◌, ℕ, zero, suc, ◌+◌, Bool, true, false, not, nat_lt, ◌&&◌, ◌||◌, List, [], ◌∷◌, length, Option, Some, None, if◌then◌else◌}
use Rattle.lv_base.specs.declared.ids.Cost.{Cost}
use Rattle.lv_base.specs.declared.search.Candidate.{Candidate}
use Rattle.lv_base.specs.Rank.{ranks_before}
use Rattle.lv_boxes.specs.Masks.{has_choice}
use Rattle.lv_boxes.specs.Members.{ZoneValue, choice_cost, is_member, rank_in}

-- the mask has one of the choices from n on, of which these are the costs
abbrev pub has_left_from : ℕ → List Cost → ℕ → Bool
has_left_from n [] mask = false
has_left_from n (cost ∷ costs) mask = has_choice mask n || has_left_from (n + 1) costs mask

-- some slot has no choice left; so too where there isn't one mask for each slot
abbrev pub lacks_choice : List (List Cost) → List ℕ → Bool
lacks_choice [] [] = false
lacks_choice (costs ∷ slots) (mask ∷ masks) = not (has_left_from 0 costs mask) || lacks_choice slots masks
lacks_choice _ _ = true

-- a member, and no member ranks before it
pub record IsLeastMember (slots : List (List Cost)) (zone : ZoneValue) (choices : List ℕ) : Type 0 where
  pub member : is_member slots zone (record { source = zone.source; choices = choices }) ≡ true
  pub first : (other : Candidate) → is_member slots zone other ≡ true → ranks_before (rank_in slots zone other.choices) (rank_in slots zone choices) ≡ false

-- the cost of the least member
pub record IsLeastCost (slots : List (List Cost)) (zone : ZoneValue) (cost : Cost) : Type 0 where
  pub choices : List ℕ
  pub least : IsLeastMember slots zone choices
  pub costs : (rank_in slots zone choices).cost ≡ cost

-- no choice, or one that costs more than choice n
abbrev pub costs_more : List Cost → ℕ → Option ℕ → Bool
costs_more costs n None = true
costs_more costs n (Some choice) = nat_lt (choice_cost costs n) (choice_cost costs choice)

-- the first among the cheapest of the choices below n that the mask has
abbrev pub cheapest_below : List Cost → ℕ → ℕ → Option ℕ
cheapest_below costs mask zero = None
cheapest_below costs mask (suc n) = (let before = cheapest_below costs mask n in if has_choice mask n && costs_more costs n before then Some n else before)

abbrev pub cheapest : List Cost → ℕ → Option ℕ
cheapest costs mask = cheapest_below costs mask (length costs)

-- a list with one more item in front, where there are both
abbrev pub put_before : Option ℕ → Option (List ℕ) → Option (List ℕ)
put_before (Some choice) (Some choices) = Some (choice ∷ choices)
put_before _ _ = None

-- at each slot the first among its cheapest choices, where each slot has one
abbrev pub cheapest_choices : List (List Cost) → List ℕ → Option (List ℕ)
cheapest_choices [] [] = Some []
cheapest_choices (costs ∷ slots) (mask ∷ masks) = put_before (cheapest costs mask) (cheapest_choices slots masks)
cheapest_choices _ _ = None
