-- The parts into which a zone is split by a conflict: together its members that don't contain the conflict.
use Rattle.std.specs.Prelude.{◌≡◌, Bool, true, false, not, nat_lt, ◌&&◌, ℕ, List, [], ◌∷◌, length, slice_index, slice_set, All, AllPairs}
use Rattle.std.specs.List.{list_all, list_any}
use Rattle.lv_base.specs.declared.ids.Cost.{Cost}
use Rattle.lv_base.specs.declared.search.Pair.{Pair}
use Rattle.lv_base.specs.declared.search.Candidate.{Candidate}
use Rattle.lv_base.specs.Choices.{contains_all}
use Rattle.lv_boxes.specs.Masks.{only_choice, without_choice}
use Rattle.lv_boxes.specs.Members.{ZoneValue, is_member}

-- the masks with the pair's choice alone at its slot
abbrev pub masks_with : List ℕ → Pair → List ℕ
masks_with masks p = slice_set masks p.slot (only_choice (slice_index masks p.slot) p.choice)

-- the masks with everything but the pair's choice at its slot
abbrev pub masks_without : List ℕ → Pair → List ℕ
masks_without masks p = slice_set masks p.slot (without_choice (slice_index masks p.slot) p.choice)

-- one zone for each pair, in order: with the choices of the pairs before it, and everything but its own choice
abbrev pub parts_of : ZoneValue → List Pair → List ZoneValue
parts_of zone [] = []
parts_of zone (p ∷ ps) = record zone { masks = masks_without zone.masks p } ∷ parts_of (record zone { masks = masks_with zone.masks p }) ps

-- the pairs are at slots that the zone has
abbrev pub are_slots_of : ZoneValue → List Pair → Bool
are_slots_of zone pairs = list_all (λ p. nat_lt p.slot (length zone.masks)) pairs

-- no candidate is a member of both
abbrev pub AreDisjoint : ZoneValue → ZoneValue → Type 0
AreDisjoint one other = (slots : List (List Cost)) (candidate : Candidate) → is_member slots one candidate ≡ true → is_member slots other candidate ≡ false

-- a part ranks its members as the zone does, and has as many slots
pub record IsAlike (zone part : ZoneValue) : Type 0 where
  pub source : part.source ≡ zone.source
  pub base : part.base ≡ zone.base
  pub slots : length part.masks ≡ length zone.masks

-- the zones share no member, and together have exactly the members of the zone that don't contain the conflict
pub record IsSplit (zone : ZoneValue) (conflict : List Pair) (zones : List ZoneValue) : Type 0 where
  pub alike : All (IsAlike zone) zones
  pub disjoint : AllPairs AreDisjoint zones
  pub exact : (slots : List (List Cost)) (candidate : Candidate) → list_any (λ part. is_member slots part candidate) zones ≡ (is_member slots zone candidate && not (contains_all candidate.choices conflict))
