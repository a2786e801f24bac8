-- Where a search stands between two turns, and which walk it is on.
use Rattle.std.specs.Prelude.{◌≡◌, ℕ, ◌+◌, ◌≤◌, Bool, true, List, [], length, take, filter, slice_index_or, Option, Some, None}
use Rattle.lv_base.specs.declared.rank.Rank.{Rank}
use Rattle.lv_base.specs.declared.search.Pair.{Pair}
use Rattle.lv_base.specs.declared.search.Candidate.{Candidate}
use Rattle.lv_boxes.specs.Walk.{Walked, candidate_of, walk_from, suit_all, first_of_each}
use Rattle.lv_boxes.specs.Groups.{alike_by}

-- what a search holds: how many it is to list; where it lists no two of one target, the groups that tell targets; what is listed and
-- kept, and the candidates left in the order of their ranks
pub record Standing : Type 0 where
  pub k : ℕ
  pub groups : Option (List (List ℕ))
  pub listed : List Rank
  pub kept : List (List Pair)
  pub left : List Rank

-- each trial added one to what is listed or kept
abbrev pub trials_of : Standing → ℕ
trials_of s = length s.listed + length s.kept

-- all that is left suits
abbrev pub all_suit : (Candidate → Bool) → Standing → Bool
all_suit suits s = suit_all suits s.left

-- the walk that goes on from here
abbrev pub walk_on : (Candidate → Bool) → (Candidate → List Pair) → ℕ → Standing → Walked
walk_on fits reason budget s = walk_from (alike_by s.groups) fits reason s.k budget s.listed s.kept s.left

-- the walk goes on alike from both, for each budget that isn't used up yet
pub record Follows (suits fits : Candidate → Bool) (reason : Candidate → List Pair) (old new : Standing) : Type 0 where
  pub walk : (budget : ℕ) → trials_of new ≤ budget → walk_on fits reason budget new ≡ walk_on fits reason budget old
  pub trials : trials_of old ≤ trials_of new
  pub k : new.k ≡ old.k
  pub groups : new.groups ≡ old.groups
  pub suit : all_suit suits old ≡ true → all_suit suits new ≡ true

-- the search is on the walk along these entries: for each budget that isn't used up yet, the walk from where it stands comes to what
-- the whole walk comes to
abbrev pub IsUnderWay : (Candidate → Bool) → (Candidate → Bool) → (Candidate → List Pair) → List Rank → Standing → Type 0
IsUnderWay suits fits reason entries s = Follows suits fits reason (record { k = s.k; groups = s.groups; listed = []; kept = []; left = entries }) s

-- the first k entries that fit, or all if fewer do; where there are groups, only such as have a target that no entry before them has
-- which fits
abbrev pub first_fitting : Option (List (List ℕ)) → ℕ → (Candidate → Bool) → List Rank → List Rank
first_fitting None k fits entries = take k (filter (λ r. fits (candidate_of r)) entries)
first_fitting (Some groups) k fits entries = take k (first_of_each (alike_by (Some groups)) (filter (λ r. fits (candidate_of r)) entries))

-- the conflict of this number
abbrev pub conflict_at : List (List Pair) → ℕ → List Pair
conflict_at kept number = slice_index_or kept number []
