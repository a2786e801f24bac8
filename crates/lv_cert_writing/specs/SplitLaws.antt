-- What a settled search leaves for a certificate to show.
use Rattle.std.specs.Prelude.{◌≡◌, ℕ, ◌≤◌, Bool, true, false, List, Option}
use Rattle.std.specs.List.{list_all, list_any}
use Rattle.lv_base.specs.declared.ids.Cost.{Cost}
use Rattle.lv_base.specs.declared.rank.Rank.{Rank}
use Rattle.lv_base.specs.declared.search.Pair.{Pair}
use Rattle.lv_base.specs.declared.search.Candidate.{Candidate}
use Rattle.lv_base.specs.Choices.{contains_all}
use Rattle.lv_boxes.specs.Members.{ZoneValue, is_member}
use Rattle.lv_boxes.specs.declared.outcome.Outcome.TheVariants.{Settled}
use Rattle.lv_boxes.specs.Ranked.{rises, is_among}
use Rattle.lv_boxes.specs.Walk.{Walked, candidate_of, distinct_walk}
use Rattle.lv_boxes.specs.Groups.{alike_by}
use Rattle.lv_boxes.specs.RankedMembers.{ranked_members}
use Rattle.lv_cert_writing.specs.Explained.{is_explained, last_if_full, AreExplained}

-- of the candidates that suit: one that doesn't fit contains its reason
pub record HasReasonsInside (suits fits : Candidate → Bool) (reason : Candidate → List Pair) : Type 0 where
  pub inside : (c : Candidate) → suits c ≡ true → fits c ≡ false → contains_all c.choices (reason c) ≡ true

-- what a walk for the first k comes to explains the rank
abbrev pub explains : Option (List (List ℕ)) → ℕ → Walked → Rank → Bool
explains groups k w r = is_explained groups (last_if_full k w.listed) w.listed w.kept r

-- with reasons inside, a settled walk for at least one, along rising entries that suit, which passes over what is alike a listed one
-- where choices have groups, explains each entry; and so each member of the zones of a search
pub record SettledWalkExplains : Type 0 where
  pub entries : (groups : Option (List (List ℕ))) (suits fits : Candidate → Bool) (reason : Candidate → List Pair) → HasReasonsInside suits fits reason → (k budget : ℕ) → 1 ≤ k → (entries : List Rank)
      → rises entries ≡ true → list_all (λ r. suits (candidate_of r)) entries ≡ true → (distinct_walk (alike_by groups) fits reason k budget entries).outcome ≡ Settled
      → (r : Rank) → is_among r entries ≡ true → explains groups k (distinct_walk (alike_by groups) fits reason k budget entries) r ≡ true
  pub members : (groups : Option (List (List ℕ))) (suits fits : Candidate → Bool) (reason : Candidate → List Pair) → HasReasonsInside suits fits reason → (k budget : ℕ) → 1 ≤ k → (slots : List (List Cost)) (zones : List ZoneValue)
      → ((c : Candidate) → list_any (λ zone. is_member slots zone c) zones ≡ true → suits c ≡ true) → (w : Walked) → distinct_walk (alike_by groups) fits reason k budget (ranked_members slots zones) ≡ w → w.outcome ≡ Settled
      → AreExplained groups slots zones (last_if_full k w.listed) w.listed w.kept
