-- Along a settled walk each entry gets explained: as it is passed over, listed or refused, or as the walk ends before it.
use Rattle.std.proofs.Common.{◌≡◌, ℕ, zero, suc, ◌-◌, ◌<◌, ◌≤◌, Bool, true, false, ◌&&◌, ◌||◌, List, [], ◌∷◌, ◌++◌, length, Option, Some, None, get_or, ⊎_elim, refl, sym, ◌∙◌, ap, subst, cond, nat_eq, arith}
use Rattle.std.specs.List.{list_all, list_any}
use Rattle.std.proofs.lemmas.Bool.{and_parts, and_from, or_cases, or_left, or_right, eqb-true}
use Rattle.std.proofs.lemmas.Option.{slice_get-get_or}
use Rattle.std.proofs.lemmas.List.Folds.{list_any-append, list_all-append}
use Rattle.lv_base.specs.declared.ids.Cost.{Cost}
use Rattle.lv_base.specs.declared.rank.Rank.{Rank}
use Rattle.lv_base.specs.declared.search.Pair.{Pair}
use Rattle.lv_base.specs.declared.search.Candidate.{Candidate}
use Rattle.lv_base.specs.Choices.{contains_all}
use Rattle.lv_base.specs.Rank.{ranks_before}
use Rattle.lv_boxes.specs.Members.{ZoneValue, is_member}
use Rattle.lv_boxes.specs.declared.outcome.Outcome.TheVariants.{Settled}
use Rattle.lv_boxes.specs.Ranked.{rises, is_rank, is_among}
use Rattle.lv_boxes.specs.Walk.{Walked, candidate_of, is_ruled_out, walk_from, distinct_walk}
use Rattle.lv_boxes.specs.Groups.{alike_by}
use Rattle.lv_boxes.proofs.RankedLemmas.{is_itself, same_rank, before_each}
use Rattle.lv_boxes.proofs.WalkLemmas.{turn, not_settled, listed_in_front, kept_in_front}
use Rattle.lv_boxes.proofs.TurnLemmas.{ruled_out_by_last}
use Rattle.lv_boxes.specs.RankedMembers.{ranked_members}
use Rattle.lv_boxes.proofs.RankedMemberLemmas.{ranked_members_rise, among_ranked_members_any, all_members_pass}
use Rattle.lv_cert_meaning.specs.Space.{is_behind}
use Rattle.lv_cert_meaning.specs.Judging.{last_of}
use Rattle.lv_cert_writing.specs.Explained.{stands_for, AreExplained, last_if_full}
use Rattle.lv_cert_writing.specs.SplitLaws.{HasReasonsInside, explains}

-- what holds of all holds of the one at a place
all_at : (f : Rank → Bool) (xs : List Rank) (i : ℕ) (d : Rank) → list_all f xs ≡ true → i < length xs → f (get_or xs i d) ≡ true
all_at f [] i d h within = absurd (omega (arith, within))
all_at f (x ∷ xs) zero d h within = (and_parts (f x) (list_all f xs) h).0
all_at f (x ∷ xs) (suc i) d h within = all_at f xs i d (and_parts (f x) (list_all f xs) h).1 (omega (arith, within))

module _ (groups : Option (List (List ℕ))) (suits fits : Candidate → Bool) (reason : Candidate → List Pair) (reasons : HasReasonsInside suits fits reason) (k budget : ℕ) (wanted : 1 ≤ k) where
  abbrev alike : Rank → Rank → Bool
  alike = alike_by groups

  -- each of the listed ranks before all that is left
  abbrev IsPast : List Rank → List Rank → Type 0
  IsPast listed left = list_all (λ (s : Rank). list_all (ranks_before s) left) listed ≡ true

  past_later : (listed : List Rank) (r : Rank) (rs : List Rank) → IsPast listed (r ∷ rs) → IsPast listed rs
  past_later [] r rs past = refl
  past_later (s ∷ ss) r rs past =
      let two = and_parts (list_all (ranks_before s) (r ∷ rs)) (list_all (λ (q : Rank). list_all (ranks_before q) (r ∷ rs)) ss) past in
      and_from (list_all (ranks_before s) rs) (list_all (λ (q : Rank). list_all (ranks_before q) rs) ss) (and_parts (ranks_before s r) (list_all (ranks_before s) rs) two.0).1 (past_later ss r rs two.1)

  -- a listed one that the next is alike stands for it
  next_stands : (listed : List Rank) (r : Rank) (rs : List Rank) → IsPast listed (r ∷ rs) → list_any (alike r) listed ≡ true → list_any (stands_for groups r) listed ≡ true
  next_stands [] r rs past any = absurd (cc any)
  next_stands (s ∷ ss) r rs past any =
      let two = and_parts (list_all (ranks_before s) (r ∷ rs)) (list_all (λ (q : Rank). list_all (ranks_before q) (r ∷ rs)) ss) past in
      let before : ranks_before s r ≡ true = (and_parts (ranks_before s r) (list_all (ranks_before s) rs) two.0).0 in
      ⊎_elim
      (λ here. or_left (stands_for groups r s) (list_any (stands_for groups r) ss) (or_right (is_rank r s) (alike r s && ranks_before s r) (and_from (alike r s) (ranks_before s r) here before)))
      (λ later. or_right (stands_for groups r s) (list_any (stands_for groups r) ss) (next_stands ss r rs two.1 later)) (or_cases (alike r s) (list_any (alike r) ss) any)

  abbrev ExplainsAll : List Rank → Walked → Type 0
  ExplainsAll left w = w.outcome ≡ Settled → (q : Rank) → is_among q left ≡ true → explains groups k w q ≡ true

  by_conflict : (w : Walked) (q : Rank) → is_ruled_out w.kept q.choices ≡ true → explains groups k w q ≡ true
  by_conflict w q ruled =
      or_right (is_behind (last_if_full k w.listed) q) (is_ruled_out w.kept q.choices || list_any (stands_for groups q) w.listed)
      (or_left (is_ruled_out w.kept q.choices) (list_any (stands_for groups q) w.listed) ruled)

  by_listed : (w : Walked) (q : Rank) → list_any (stands_for groups q) w.listed ≡ true → explains groups k w q ≡ true
  by_listed w q stands =
      or_right (is_behind (last_if_full k w.listed) q) (is_ruled_out w.kept q.choices || list_any (stands_for groups q) w.listed)
      (or_right (is_ruled_out w.kept q.choices) (list_any (stands_for groups q) w.listed) stands)

  -- where enough are listed, what is left ranks behind the last
  by_last : (listed : List Rank) (kept : List (List Pair)) (left : List Rank) → nat_eq (length listed) k ≡ true → IsPast listed left → (q : Rank) → is_among q left ≡ true
      → explains groups k (record { outcome = Settled; listed = listed; kept = kept }) q ≡ true
  by_last [] kept left full past q among = let none : 0 ≡ k = eqb-true 0 k full in absurd (omega (arith, none, wanted))
  by_last (x ∷ xs) kept left full past q among =
      or_left (is_behind (last_if_full k (x ∷ xs)) q) (is_ruled_out kept q.choices || list_any (stands_for groups q) (x ∷ xs))
      ((λ i. is_behind (cond (full i) (last_is i) None) q) ∙ before_each last q left (all_at (λ (s : Rank). list_all (ranks_before s) left) (x ∷ xs) (length (x ∷ xs) - 1) x past (omega arith)) among)
    where
      last : Rank
      last = get_or (x ∷ xs) (length (x ∷ xs) - 1) x

      last_is : last_of (x ∷ xs) ≡ Some last
      last_is = slice_get-get_or (x ∷ xs) (length (x ∷ xs) - 1) x (omega arith)

  -- the first of what is left, or a later one
  first_or_later : (w : Walked) (r : Rank) (rs : List Rank) → (w.outcome ≡ Settled → explains groups k w r ≡ true) → ExplainsAll rs w → ExplainsAll (r ∷ rs) w
  first_or_later w r rs first later settled q among =
      ⊎_elim (λ e. subst (λ (t : Rank). explains groups k w t ≡ true) (sym (same_rank q r e)) (first settled)) (later settled q) (or_cases (is_rank q r) (is_among q rs) among)

  explained_on : (left listed : List Rank) (kept : List (List Pair)) → rises left ≡ true → list_all (λ (r : Rank). suits (candidate_of r)) left ≡ true → IsPast listed left
      → ExplainsAll left (walk_from alike fits reason k budget listed kept left)
  explained_on [] listed kept up suit past = λ settled q among. absurd (cc among)
  explained_on (r ∷ rs) listed kept up suit past =
      turn alike fits reason k budget (ExplainsAll (r ∷ rs)) r rs listed kept
      (λ full settled q among. by_last listed kept (r ∷ rs) full past q among)
      (λ ruled. first_or_later (on listed kept) r rs (λ _. still_ruled listed kept ruled) (explained_on rs listed kept rise.1 suit_all.1 past_rest))
      (λ repeated. first_or_later (on listed kept) r rs (λ _. still_stands listed kept (next_stands listed r rs past repeated)) (explained_on rs listed kept rise.1 suit_all.1 past_rest))
      (λ _ e. absurd (not_settled e))
      (λ _ _ _ fit. first_or_later (on (listed ++ r ∷ []) kept) r rs (λ _. still_stands (listed ++ r ∷ []) kept stands_itself) (explained_on rs (listed ++ r ∷ []) kept rise.1 suit_all.1 past_listed))
      (λ _ _ unfit.
      first_or_later (on listed (kept ++ reason (candidate_of r) ∷ [])) r rs
      (λ _. still_ruled listed (kept ++ reason (candidate_of r) ∷ []) (ruled_out_by_last kept (reason (candidate_of r)) r.choices (reasons.inside (candidate_of r) suit_all.0 unfit)))
      (explained_on rs listed (kept ++ reason (candidate_of r) ∷ []) rise.1 suit_all.1 past_rest))
    where
      on : List Rank → List (List Pair) → Walked
      on listed kept = walk_from alike fits reason k budget listed kept rs

      rise : (list_all (ranks_before r) rs ≡ true) × (rises rs ≡ true)
      rise = and_parts (list_all (ranks_before r) rs) (rises rs) up

      suit_all : (suits (candidate_of r) ≡ true) × (list_all (λ (q : Rank). suits (candidate_of q)) rs ≡ true)
      suit_all = and_parts (suits (candidate_of r)) (list_all (λ (q : Rank). suits (candidate_of q)) rs) suit

      past_rest : IsPast listed rs
      past_rest = past_later listed r rs past

      past_listed : IsPast (listed ++ r ∷ []) rs
      past_listed =
          list_all-append (λ (s : Rank). list_all (ranks_before s) rs) listed (r ∷ [])
          ∙ and_from (list_all (λ (s : Rank). list_all (ranks_before s) rs) listed) (list_all (ranks_before r) rs && true) past_rest (and_from (list_all (ranks_before r) rs) true rise.0 refl)

      still_ruled : (listed : List Rank) (kept : List (List Pair)) → is_ruled_out kept r.choices ≡ true → explains groups k (walk_from alike fits reason k budget listed kept rs) r ≡ true
      still_ruled listed kept ruled =
          let front = kept_in_front alike fits reason k budget rs listed kept in
          by_conflict (walk_from alike fits reason k budget listed kept rs) r
          (ap (λ ks. is_ruled_out ks r.choices) front.1 ∙ list_any-append (contains_all r.choices) kept front.0 ∙ or_left (is_ruled_out kept r.choices) (is_ruled_out front.0 r.choices) ruled)

      still_stands : (listed : List Rank) (kept : List (List Pair)) → list_any (stands_for groups r) listed ≡ true → explains groups k (walk_from alike fits reason k budget listed kept rs) r ≡ true
      still_stands listed kept stands =
          let front = listed_in_front alike fits reason k budget rs listed kept in
          by_listed (walk_from alike fits reason k budget listed kept rs) r
          (ap (list_any (stands_for groups r)) front.1 ∙ list_any-append (stands_for groups r) listed front.0
          ∙ or_left (list_any (stands_for groups r) listed) (list_any (stands_for groups r) front.0) stands)

      stands_itself : list_any (stands_for groups r) (listed ++ r ∷ []) ≡ true
      stands_itself =
          list_any-append (stands_for groups r) listed (r ∷ [])
          ∙ or_right (list_any (stands_for groups r) listed) (stands_for groups r r || false) (or_left (stands_for groups r r) false (or_left (is_rank r r) (alike r r && ranks_before r r) (is_itself r)))

pub walk_explains : (groups : Option (List (List ℕ))) (suits fits : Candidate → Bool) (reason : Candidate → List Pair) → HasReasonsInside suits fits reason → (k budget : ℕ) → 1 ≤ k → (entries : List Rank)
    → rises entries ≡ true → list_all (λ (r : Rank). suits (candidate_of r)) entries ≡ true → (distinct_walk (alike_by groups) fits reason k budget entries).outcome ≡ Settled
    → (r : Rank) → is_among r entries ≡ true → explains groups k (distinct_walk (alike_by groups) fits reason k budget entries) r ≡ true
walk_explains groups suits fits reason reasons k budget wanted entries up suit = explained_on groups suits fits reason reasons k budget wanted entries [] [] up suit refl

pub search_explains : (groups : Option (List (List ℕ))) (suits fits : Candidate → Bool) (reason : Candidate → List Pair) → HasReasonsInside suits fits reason → (k budget : ℕ) → 1 ≤ k → (slots : List (List Cost)) (zones : List ZoneValue)
    → ((c : Candidate) → list_any (λ zone. is_member slots zone c) zones ≡ true → suits c ≡ true) → (w : Walked) → distinct_walk (alike_by groups) fits reason k budget (ranked_members slots zones) ≡ w → w.outcome ≡ Settled
    → AreExplained groups slots zones (last_if_full k w.listed) w.listed w.kept
search_explains groups suits fits reason reasons k budget wanted slots zones suit w is settled =
    record {
      each = λ r member.
          subst (λ (v : Walked). explains groups k v r ≡ true) is
          (walk_explains groups suits fits reason reasons k budget wanted (ranked_members slots zones) (ranked_members_rise slots zones) (all_members_pass slots zones suits suit)
          (ap (λ (v : Walked). v.outcome) is ∙ settled) r (among_ranked_members_any slots zones r ∙ member));
    }
