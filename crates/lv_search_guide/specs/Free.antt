-- The members of a zone that contain none of some conflicts, and which of them ranks first.
use Rattle.std.specs.Prelude.{◌≡◌, Bool, true, false, not, ◌&&◌, List, Option, Some, None}
use Rattle.lv_base.specs.declared.ids.Cost.{Cost}
use Rattle.lv_base.specs.declared.rank.Rank.{Rank}
use Rattle.lv_base.specs.declared.search.Pair.{Pair}
use Rattle.lv_base.specs.declared.search.Candidate.{Candidate}
use Rattle.lv_base.specs.Rank.{ranks_before}
use Rattle.lv_boxes.specs.Members.{ZoneValue, is_member, rank_in}
use Rattle.lv_boxes.specs.Walk.{candidate_of, is_ruled_out}

-- a member that contains none of the conflicts
abbrev pub is_free_member : List (List Cost) → ZoneValue → List (List Pair) → Candidate → Bool
is_free_member slots zone conflicts candidate = is_member slots zone candidate && not (is_ruled_out conflicts candidate.choices)

-- the rank of a member that contains none of the conflicts, and none of these ranks before it
pub record IsLeastFree (slots : List (List Cost)) (zone : ZoneValue) (conflicts : List (List Pair)) (rank : Rank) : Type 0 where
  pub member : is_free_member slots zone conflicts (candidate_of rank) ≡ true
  pub is : rank ≡ rank_in slots zone rank.choices
  pub first : (other : Candidate) → is_free_member slots zone conflicts other ≡ true → ranks_before (rank_in slots zone other.choices) rank ≡ false

-- each member contains some conflict
pub record HasNoFree (slots : List (List Cost)) (zone : ZoneValue) (conflicts : List (List Pair)) : Type 0 where
  pub none : (candidate : Candidate) → is_free_member slots zone conflicts candidate ≡ false

abbrev pub LeastFreeTells : List (List Cost) → ZoneValue → List (List Pair) → Option Rank → Type 0
LeastFreeTells slots zone conflicts None = HasNoFree slots zone conflicts
LeastFreeTells slots zone conflicts (Some rank) = IsLeastFree slots zone conflicts rank

-- two answers that both tell this are one
abbrev pub LeastFreeIsOne : Type 0
LeastFreeIsOne = (slots : List (List Cost)) (zone : ZoneValue) (conflicts : List (List Pair)) (one other : Option Rank)
    → LeastFreeTells slots zone conflicts one → LeastFreeTells slots zone conflicts other → one ≡ other
