-- The walk along ranked candidates: which of them are tried, listed, and ruled out by a conflict that an earlier trial left.
use Rattle.std.specs.Prelude.{ℕ, ◌+◌, Bool, false, nat_eq, List, [], ◌∷◌, ◌++◌, length, if◌then◌else◌}
use Rattle.std.specs.List.{list_all, list_any}
use Rattle.lv_base.specs.declared.rank.Rank.{Rank}
use Rattle.lv_base.specs.declared.search.Pair.{Pair}
use Rattle.lv_base.specs.declared.search.Candidate.{Candidate}
use Rattle.lv_base.specs.Choices.{contains_all}
use Rattle.lv_boxes.specs.declared.outcome.Outcome.{Outcome}
use Rattle.lv_boxes.specs.declared.outcome.Outcome.TheVariants.{Settled, Unsettled}

-- what a walk comes to; each trial added one to what is listed or kept
pub record Walked : Type 0 where
  pub outcome : Outcome
  pub listed : List Rank
  pub kept : List (List Pair)

-- what is tried at an entry
abbrev pub candidate_of : Rank → Candidate
candidate_of r = record { source = r.source; choices = r.choices }

-- all of these suit
abbrev pub suit_all : (Candidate → Bool) → List Rank → Bool
suit_all suits entries = list_all (λ r. suits (candidate_of r)) entries

-- the choices have all of some kept conflict
abbrev pub is_ruled_out : List (List Pair) → List ℕ → Bool
is_ruled_out kept choices = list_any (contains_all choices) kept

-- the walk along what is left, where these are listed and kept: it ends settled where k are listed; it passes over what a kept
-- conflict rules out, and over what is alike a listed one; it ends unsettled where the budget of trials is used up; else the next is
-- tried. At the end it is settled
abbrev pub walk_from : (Rank → Rank → Bool) → (Candidate → Bool) → (Candidate → List Pair) → ℕ → ℕ → List Rank → List (List Pair) → List Rank → Walked
walk_from alike fits reason k budget listed kept [] = record { outcome = Settled; listed = listed; kept = kept }
walk_from alike fits reason k budget listed kept (r ∷ rs) =
    (if nat_eq (length listed) k then record { outcome = Settled; listed = listed; kept = kept } else
    (if is_ruled_out kept r.choices then walk_from alike fits reason k budget listed kept rs else
    (if list_any (alike r) listed then walk_from alike fits reason k budget listed kept rs else
    (if nat_eq (length listed + length kept) budget then record { outcome = Unsettled; listed = listed; kept = kept } else
    (if fits (candidate_of r) then walk_from alike fits reason k budget (listed ++ (r ∷ [])) kept rs else
    walk_from alike fits reason k budget listed (kept ++ (reason (candidate_of r) ∷ [])) rs)))))

-- the walk along these entries that lists no two which are alike
abbrev pub distinct_walk : (Rank → Rank → Bool) → (Candidate → Bool) → (Candidate → List Pair) → ℕ → ℕ → List Rank → Walked
distinct_walk alike fits reason k budget entries = walk_from alike fits reason k budget [] [] entries

-- no entry is alike another
abbrev pub none_alike : Rank → Rank → Bool
none_alike r q = false

-- the walk along these entries
abbrev pub walk : (Candidate → Bool) → (Candidate → List Pair) → ℕ → ℕ → List Rank → Walked
walk fits reason k budget entries = distinct_walk none_alike fits reason k budget entries

-- those of the entries that are alike none of the ones before them, where these came before the first
abbrev pub first_of_each_behind : (Rank → Rank → Bool) → List Rank → List Rank → List Rank
first_of_each_behind alike before [] = []
first_of_each_behind alike before (r ∷ rs) =
    (if list_any (alike r) before then first_of_each_behind alike (before ++ (r ∷ [])) rs else r ∷ first_of_each_behind alike (before ++ (r ∷ [])) rs)

-- those of the entries that are alike none of the ones before them
abbrev pub first_of_each : (Rank → Rank → Bool) → List Rank → List Rank
first_of_each alike entries = first_of_each_behind alike [] entries
