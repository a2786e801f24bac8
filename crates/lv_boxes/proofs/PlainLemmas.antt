-- The walk in which no entry is alike another is the plain one.
use Rattle.std.proofs.Common.{◌≡◌, ℕ, ◌+◌, Bool, false, List, [], ◌∷◌, ◌++◌, length, refl, cond, nat_eq}
use Rattle.std.specs.List.{list_any}
use Rattle.lv_base.specs.declared.rank.Rank.{Rank}
use Rattle.lv_base.specs.declared.search.Pair.{Pair}
use Rattle.lv_base.specs.declared.search.Candidate.{Candidate}
use Rattle.lv_boxes.specs.declared.outcome.Outcome.TheVariants.{Settled, Unsettled}
use Rattle.lv_boxes.specs.Walk.{candidate_of, is_ruled_out, none_alike, walk_from}
use Rattle.lv_boxes.specs.WalkLaws.{plain_walk_from}

none_in : (r : Rank) (qs : List Rank) → list_any (none_alike r) qs ≡ false
none_in r [] = refl
none_in r (q ∷ qs) = none_in r qs

module _ (fits : Candidate → Bool) (reason : Candidate → List Pair) (k budget : ℕ) where
  pub plain_from : (left listed : List Rank) (kept : List (List Pair)) → walk_from none_alike fits reason k budget listed kept left ≡ plain_walk_from fits reason k budget listed kept left
  plain_from [] listed kept = refl
  plain_from (r ∷ rs) listed kept =
      λ i. cond (nat_eq (length listed) k) (record { outcome = Settled; listed = listed; kept = kept })
      (cond (is_ruled_out kept r.choices) (plain_from rs listed kept i)
      (cond (none_in r listed i) (walk_from none_alike fits reason k budget listed kept rs)
      (cond (nat_eq (length listed + length kept) budget) (record { outcome = Unsettled; listed = listed; kept = kept })
      (cond (fits (candidate_of r)) (plain_from rs (listed ++ (r ∷ [])) kept i) (plain_from rs listed (kept ++ (reason (candidate_of r) ∷ [])) i)))))
