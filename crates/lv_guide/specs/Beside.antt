-- The first member of a zone by some of the known conflicts.
use Rattle.std.specs.Prelude.{◌≡◌, ℕ, Bool, true, List, [], ◌∷◌, Option, Some, None, if◌then◌else◌}
use Rattle.lv_base.specs.declared.ids.Cost.{Cost}
use Rattle.lv_base.specs.declared.rank.Rank.{Rank}
use Rattle.lv_base.specs.declared.search.Pair.{Pair}
use Rattle.lv_boxes.specs.Least.{lacks_choice, IsLeastMember}
use Rattle.lv_boxes.specs.Members.{ZoneValue, rank_in}
use Rattle.lv_search_parts.specs.Labels.{AreLabels}
use Rattle.lv_search_guide.specs.Free.{IsLeastFree, HasNoFree}
use Rattle.lv_guide.specs.Narrowed.{IsNarrowed}
use Rattle.lv_guide.specs.Near.{AreAmong}

-- labels of so many slots, one for those that conflicts join
abbrev pub AreJoined : List (List Pair) → ℕ → List ℕ → Type 0
AreJoined conflicts slots labels = AreLabels conflicts slots labels

-- the rank is that of the member which ranks first among those that contain none of some of the conflicts
pub record IsFirstBySome (slots : List (List Cost)) (zone : ZoneValue) (conflicts : List (List Pair)) (rank : Rank) : Type 0 where
  pub others : List (List Pair)
  pub among : AreAmong others conflicts
  pub first : IsLeastFree slots zone others rank

abbrev pub FirstBySomeTells : List (List Cost) → ZoneValue → List (List Pair) → Option Rank → Type 0
FirstBySomeTells slots zone conflicts None = HasNoFree slots zone conflicts
FirstBySomeTells slots zone conflicts (Some rank) = IsFirstBySome slots zone conflicts rank

-- one choice for each slot: the inner one where it is marked, else the outer one
abbrev pub mixed : List Bool → List ℕ → List ℕ → List ℕ
mixed (mark ∷ marks) (x ∷ inner) (y ∷ outer) = (if mark then x else y) ∷ mixed marks inner outer
mixed _ _ _ = []

-- the rank of the zone's least choices at the slots that are marked and of these at the others
pub record IsLeastInside (slots : List (List Cost)) (zone : ZoneValue) (marks : List Bool) (others : List ℕ) (rank : Rank) : Type 0 where
  pub least : List ℕ
  pub is_least : IsLeastMember slots zone least
  pub is : rank ≡ rank_in slots zone (mixed marks least others)

abbrev pub LeastInsideTells : List (List Cost) → ZoneValue → List Bool → List ℕ → Option Rank → Type 0
LeastInsideTells slots zone marks others None = (lacks_choice slots zone.masks ≡ true)
LeastInsideTells slots zone marks others (Some rank) = IsLeastInside slots zone marks others rank

-- a zone with fewer choices and its first member by some of the conflicts
pub record IsBeside (slots : List (List Cost)) (zone : ZoneValue) (conflicts : List (List Pair)) (found : Rank × ZoneValue) : Type 0 where
  pub narrowed : IsNarrowed zone conflicts found.1
  pub first : IsFirstBySome slots found.1 conflicts found.0

abbrev pub BesideTells : List (List Cost) → ZoneValue → List (List Pair) → Option (Rank × ZoneValue) → Type 0
BesideTells slots zone conflicts None = HasNoFree slots zone conflicts
BesideTells slots zone conflicts (Some found) = IsBeside slots zone conflicts found
