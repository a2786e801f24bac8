-- The parts into which a zone is split by the target of a member: together its members that have another one.
use Rattle.std.specs.Prelude.{◌≡◌, Bool, true, false, not, nat_eq, ◌&&◌, ℕ, ◌+◌, ◌≤◌, List, [], ◌∷◌, length, slice_index, slice_set, All, AllPairs}
use Rattle.std.specs.List.{list_any}
use Rattle.lv_base.specs.declared.ids.Cost.{Cost}
use Rattle.lv_base.specs.declared.search.Candidate.{Candidate}
use Rattle.lv_boxes.specs.Groups.{group_of, are_grouped, have_same_groups}
use Rattle.lv_boxes.specs.Masks.{only_group, without_group}
use Rattle.lv_boxes.specs.Members.{ZoneValue, is_member}
use Rattle.lv_boxes.specs.Parts.{AreDisjoint, IsAlike}

-- the groups of a slot's choices
pub record HasGroups (numbers : List ℕ) : Type 0 where
  pub some : 1 ≤ length numbers
  pub few : length numbers ≤ 64

-- a group for each choice of each slot
abbrev pub have_shape : List (List Cost) → List (List ℕ) → Bool
have_shape [] [] = true
have_shape [] (numbers ∷ groups) = false
have_shape (costs ∷ slots) [] = false
have_shape (costs ∷ slots) (numbers ∷ groups) = nat_eq (length costs) (length numbers) && have_shape slots groups

-- the masks with this group of choices alone at the slot
abbrev pub masks_of_group : List ℕ → ℕ → List ℕ → ℕ → List ℕ
masks_of_group masks slot numbers group = slice_set masks slot (only_group (slice_index masks slot) numbers group)

-- the masks with every other group at the slot
abbrev pub masks_of_others : List ℕ → ℕ → List ℕ → ℕ → List ℕ
masks_of_others masks slot numbers group = slice_set masks slot (without_group (slice_index masks slot) numbers group)

-- one zone for each slot from this one on, in order: with the groups of these choices at the slots before it, and every other group
-- at its own
abbrev pub parts_from : ZoneValue → ℕ → List (List ℕ) → List ℕ → List ZoneValue
parts_from zone slot [] choices = []
parts_from zone slot (numbers ∷ groups) [] = []
parts_from zone slot (numbers ∷ groups) (choice ∷ choices) =
    record zone { masks = masks_of_others zone.masks slot numbers (group_of numbers choice) }
    ∷ parts_from (record zone { masks = masks_of_group zone.masks slot numbers (group_of numbers choice) }) (slot + 1) groups choices

-- one zone for each slot
abbrev pub parts_by_groups : ZoneValue → List (List ℕ) → List ℕ → List ZoneValue
parts_by_groups zone groups member = parts_from zone 0 groups member

-- the zones share no member, and together have exactly the members of the zone that have another target: of such candidates as have a
-- group at each slot
pub record IsSplitByGroups (zone : ZoneValue) (groups : List (List ℕ)) (member : List ℕ) (zones : List ZoneValue) : Type 0 where
  pub alike : All (IsAlike zone) zones
  pub disjoint : AllPairs AreDisjoint zones
  pub within : (slots : List (List Cost)) (candidate : Candidate) → list_any (λ part. is_member slots part candidate) zones ≡ true → is_member slots zone candidate ≡ true
  pub exact : (slots : List (List Cost)) (candidate : Candidate) → are_grouped groups candidate.choices ≡ true
      → list_any (λ part. is_member slots part candidate) zones ≡ (is_member slots zone candidate && not (have_same_groups groups candidate.choices member))
