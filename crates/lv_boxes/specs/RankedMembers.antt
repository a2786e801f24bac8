-- All members of some zones in the order of their ranks: the entries of the walk that a search comes to. Nothing lists them.
use Rattle.std.specs.Prelude.{◌≡◌, ℕ, ◌+◌, ◌≤◌, Bool, true, not, nat_eq, ◌&&◌, List, [], ◌∷◌, map, if◌then◌else◌}
use Rattle.std.specs.List.{flat_map, list_any}
use Rattle.lv_base.specs.declared.ids.Cost.{Cost}
use Rattle.lv_base.specs.declared.rank.Rank.{Rank}
use Rattle.lv_boxes.specs.Masks.{has_choice}
use Rattle.lv_boxes.specs.Members.{ZoneValue, is_member, choices_cost, rank_in}
use Rattle.lv_boxes.specs.Least.{IsLeastMember}
use Rattle.lv_boxes.specs.Ranked.{ranked}
use Rattle.lv_boxes.specs.Walk.{candidate_of}

-- the choices that the mask has, from n on, of which these are the costs
abbrev pub choices_left : ℕ → List Cost → ℕ → List ℕ
choices_left n [] mask = []
choices_left n (cost ∷ costs) mask = (if has_choice mask n then n ∷ choices_left (n + 1) costs mask else choices_left (n + 1) costs mask)

-- every list of one choice that is left for each slot
abbrev pub lists_left : List (List Cost) → List ℕ → List (List ℕ)
lists_left [] [] = [] ∷ []
lists_left (costs ∷ slots) (mask ∷ masks) = flat_map (λ choice. map (λ choices. choice ∷ choices) (lists_left slots masks)) (choices_left 0 costs mask)
lists_left _ _ = []

-- the members of a zone, each as its rank
abbrev pub members_of : List (List Cost) → ZoneValue → List Rank
members_of slots zone = map (rank_in slots zone) (lists_left slots zone.masks)

-- the members of all these zones in the order of their ranks
abbrev pub ranked_members : List (List Cost) → List ZoneValue → List Rank
ranked_members slots zones = ranked (flat_map (members_of slots) zones)

-- it is the rank of a member of the zone
abbrev pub ranks_in : List (List Cost) → Rank → ZoneValue → Bool
ranks_in slots r zone = is_member slots zone (candidate_of r) && nat_eq r.cost.0 (zone.base.0 + choices_cost slots r.choices)

-- how many of the zones have it
abbrev pub times_in : List (List Cost) → Rank → List ZoneValue → ℕ
times_in slots r [] = 0
times_in slots r (zone ∷ zones) = (if ranks_in slots r zone then 1 else 0) + times_in slots r zones

-- no zones share a member
abbrev pub AreApart : List (List Cost) → List ZoneValue → Type 0
AreApart slots zones = (r : Rank) → times_in slots r zones ≤ 1

-- the rank of the zone's least member
pub record IsLeastRank (slots : List (List Cost)) (zone : ZoneValue) (r : Rank) : Type 0 where
  pub least : IsLeastMember slots zone r.choices
  pub is : r ≡ rank_in slots zone r.choices

-- no two of the zones have one source
abbrev pub sources_differ : List ZoneValue → Bool
sources_differ [] = true
sources_differ (zone ∷ zones) = not (list_any (λ other. nat_eq other.source zone.source) zones) && sources_differ zones
