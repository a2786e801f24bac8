-- What may be left out of the candidates that are left.
use Rattle.std.specs.Prelude.{◌≡◌, ◌⊎◌, ℕ, Bool, true, false, List, [], ◌∷◌, drop, filter, Option, Some, None}
use Rattle.lv_base.specs.declared.rank.Rank.{Rank}
use Rattle.lv_base.specs.declared.search.Pair.{Pair}
use Rattle.lv_base.specs.Choices.{contains_all}
use Rattle.lv_boxes.specs.Groups.{have_same_groups}

-- there is a first, and it contains the conflict
abbrev pub FirstContains : List Pair → List Rank → Type 0
FirstContains conflict [] = ⊥
FirstContains conflict (r ∷ rs) = contains_all r.choices conflict ≡ true

-- there is a first, and it isn't kept
abbrev pub LeavesFirst : (Rank → Bool) → List Rank → Type 0
LeavesFirst keeps [] = ⊥
LeavesFirst keeps (r ∷ rs) = keeps r ≡ false

-- the first is left out, maybe with others, and only such as contain the conflict
pub record Thins (conflict : List Pair) (old new : List Rank) : Type 0 where
  pub keeps : Rank → Bool
  pub same : new ≡ filter keeps old
  pub first : LeavesFirst keeps old
  pub only : (r : Rank) → keeps r ≡ false → contains_all r.choices conflict ≡ true

-- the entry has the target of the first of these
abbrev pub IsLikeFirst : List (List ℕ) → Rank → List Rank → Type 0
IsLikeFirst groups r [] = ⊥
IsLikeFirst groups r (q ∷ qs) = have_same_groups groups r.choices q.choices ≡ true

-- the first is left out, maybe with others, and only such as have its target
pub record ThinsAlike (groups : List (List ℕ)) (old new : List Rank) : Type 0 where
  pub keeps : Rank → Bool
  pub same : new ≡ filter keeps old
  pub first : LeavesFirst keeps old
  pub only : (r : Rank) → keeps r ≡ false → IsLikeFirst groups r old

-- the first is left out, alone or with others that have its target
abbrev pub LeavesOut : List (List ℕ) → List Rank → List Rank → Type 0
LeavesOut groups old new = (new ≡ drop 1 old) ⊎ ThinsAlike groups old new

-- where there are no groups, alone
abbrev pub LeftAfter : Option (List (List ℕ)) → List Rank → List Rank → Type 0
LeftAfter None old new = new ≡ drop 1 old
LeftAfter (Some groups) old new = LeavesOut groups old new
