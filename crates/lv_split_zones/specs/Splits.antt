-- All zones that splits make, and which of them were split.
use Rattle.std.specs.Prelude.{◌≡◌, ℕ, ◌+◌, ◌<◌, Bool, nat_eq, List, [], ◌∷◌, ◌++◌, length, Option, Some, None, slice_get, if◌then◌else◌}
use Rattle.std.specs.Option.{option_map_or}
use Rattle.lv_base.specs.declared.search.Pair.{Pair}
use Rattle.lv_boxes.specs.Members.{ZoneValue}
use Rattle.lv_boxes.specs.Parts.{masks_with, masks_without, parts_of}
use Rattle.lv_boxes.specs.GroupParts.{masks_of_group, masks_of_others, parts_by_groups}
use Rattle.lv_boxes.specs.Groups.{group_of}
use Rattle.lv_split_zones.specs.declared.split.By.{By}
use Rattle.lv_split_zones.specs.declared.split.By.TheVariants as by
use Rattle.lv_split_zones.specs.declared.split.Split.{Split}
use Rattle.lv_split_zones.specs.declared.split.Step.{Step}

-- what splits are by
pub record CausesValue : Type 0 where
  pub conflicts : List (List Pair)
  pub groups : List (List (List ℕ))
  pub members : List (List ℕ)

-- the parts by the target of a member, where there are groups and it
abbrev pub parts_by_target : ZoneValue → Option (List (List ℕ)) → Option (List ℕ) → List ZoneValue
parts_by_target zone (Some groups) (Some member) = parts_by_groups zone groups member
parts_by_target zone _ _ = []

-- the parts of a zone
abbrev pub parts_by : CausesValue → ZoneValue → By → List ZoneValue
parts_by causes zone (by.Conflict j) = option_map_or (parts_of zone) (slice_get causes.conflicts j) []
parts_by causes zone (by.Target g m) = parts_by_target zone (slice_get causes.groups g) (slice_get causes.members m)

-- the parts that a split of one of these zones makes
abbrev pub parts_at : CausesValue → List ZoneValue → Split → List ZoneValue
parts_at causes zones s = option_map_or (λ zone. parts_by causes zone s.by) (slice_get zones s.zone) []

-- the zones, and behind them the parts of each split
abbrev pub made : CausesValue → List ZoneValue → List Split → List ZoneValue
made causes zones [] = zones
made causes zones (s ∷ ss) = made causes (zones ++ parts_at causes zones s) ss

-- there is what it is by
abbrev pub IsKnown : CausesValue → By → Type 0
IsKnown causes (by.Conflict j) = j < length causes.conflicts
IsKnown causes (by.Target g m) = (g < length causes.groups) × (m < length causes.members)

-- what there was is there, at its place
pub record IsKept (old new : CausesValue) : Type 0 where
  pub conflicts : (j : ℕ) (pairs : List Pair) → slice_get old.conflicts j ≡ Some pairs → slice_get new.conflicts j ≡ Some pairs
  pub groups : (j : ℕ) (groups : List (List ℕ)) → slice_get old.groups j ≡ Some groups → slice_get new.groups j ≡ Some groups
  pub members : (j : ℕ) (member : List ℕ) → slice_get old.members j ≡ Some member → slice_get new.members j ≡ Some member

-- by this conflict
abbrev pub IsConflict : CausesValue → List Pair → By → Type 0
IsConflict causes pairs (by.Conflict j) = slice_get causes.conflicts j ≡ Some pairs
IsConflict causes pairs (by.Target g m) = ⊥

-- by the target of this member
abbrev pub IsTarget : CausesValue → List (List ℕ) → List ℕ → By → Type 0
IsTarget causes groups member (by.Conflict j) = ⊥
IsTarget causes groups member (by.Target g m) = (slice_get causes.groups g ≡ Some groups) × (slice_get causes.members m ≡ Some member)

-- a split of one of these zones, whose parts come behind them
pub record IsNext (causes : CausesValue) (zones : List ZoneValue) (s : Split) : Type 0 where
  pub zone : s.zone < length zones
  pub first : s.first ≡ length zones
  pub known : IsKnown causes s.by

-- each split is one of the zones that there are before it
abbrev pub AreSplits : CausesValue → List ZoneValue → List Split → Type 0
AreSplits causes zones [] = Unit {0}
AreSplits causes zones (s ∷ ss) = IsNext causes zones s × AreSplits causes (zones ++ parts_at causes zones s) ss

-- the zones from this place on, nothing where one was split
abbrev pub without_split : (ℕ → Bool) → ℕ → List ZoneValue → List (Option ZoneValue)
without_split is_split at [] = []
without_split is_split at (zone ∷ zones) = (if is_split at then None else Some zone) ∷ without_split is_split (at + 1) zones

-- the masks of a part by the pairs from this place on: with the choices of those before its own, and everything but that one
abbrev pub masks_of_part : List ℕ → ℕ → List Pair → ℕ → List ℕ
masks_of_part masks place [] part = masks
masks_of_part masks place (p ∷ ps) part = if nat_eq place part then masks_without masks p else masks_of_part (masks_with masks p) (place + 1) ps part

-- the same by a target, from this slot on
abbrev pub masks_of_target_part : List ℕ → ℕ → List (List ℕ) → List ℕ → ℕ → List ℕ
masks_of_target_part masks slot [] choices part = masks
masks_of_target_part masks slot (numbers ∷ groups) [] part = masks
masks_of_target_part masks slot (numbers ∷ groups) (choice ∷ choices) part =
    (if nat_eq slot part
    then masks_of_others masks slot numbers (group_of numbers choice)
    else masks_of_target_part (masks_of_group masks slot numbers (group_of numbers choice)) (slot + 1) groups choices part)

abbrev pub masks_by_target : List ℕ → ℕ → Option (List (List ℕ)) → Option (List ℕ) → List ℕ
masks_by_target masks part (Some groups) (Some member) = masks_of_target_part masks 0 groups member part
masks_by_target masks part _ _ = masks

-- the masks of a part by what it is split
abbrev pub masks_by : CausesValue → ℕ → List ℕ → By → List ℕ
masks_by causes part masks (by.Conflict j) = option_map_or (λ pairs. masks_of_part masks 0 pairs part) (slice_get causes.conflicts j) masks
masks_by causes part masks (by.Target g m) = masks_by_target masks part (slice_get causes.groups g) (slice_get causes.members m)

-- the masks of a part of a part .., the last step first
abbrev pub masks_after : CausesValue → List Step → List ℕ → List ℕ
masks_after causes [] masks = masks
masks_after causes (s ∷ steps) masks = masks_by causes s.part (masks_after causes steps masks) s.by

abbrev pub zone_after : CausesValue → List Step → ZoneValue → ZoneValue
zone_after causes steps zone = record zone { masks = masks_after causes steps zone.masks }
