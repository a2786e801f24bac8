-- With minimal reasons no kept conflict is in another.
use Rattle.std.proofs.Common.{◌≡◌, ℕ, Bool, true, false, not, ◌&&◌, List, [], ◌∷◌, ◌++◌, refl, sym, ◌∙◌, ap, ⊎_elim, nat_eq}
use Rattle.std.specs.List.{AllByRecursion, list_all, list_any}
use Rattle.std.proofs.lemmas.Bool.{and_from, and_parts, or_cases, or_parts, eqb-true, both_ways, false_from_ne_true, not_from_false}
use Rattle.lv_base.specs.declared.rank.Rank.{Rank}
use Rattle.lv_base.specs.declared.search.Pair.{Pair}
use Rattle.lv_base.specs.declared.search.Candidate.{Candidate}
use Rattle.lv_base.specs.Choices.{picks, contains_all}
use Rattle.lv_boxes.specs.Walk.{candidate_of, is_ruled_out, walk_from}
use Rattle.lv_boxes.specs.WalkLaws.{is_pair, has_pairs, none_in_another, AreMinimal}
use Rattle.lv_boxes.proofs.WalkLemmas.{turn}

same_pair : (p q : Pair) → is_pair p q ≡ true → p ≡ q
same_pair p q h =
    let parts = and_parts (nat_eq p.slot q.slot) (nat_eq p.choice q.choice) h in
    let slot : p.slot ≡ q.slot = eqb-true p.slot q.slot parts.0 in
    let choice : p.choice ≡ q.choice = eqb-true p.choice q.choice parts.1 in
    λ i. record { slot = slot i; choice = choice i }

picks_one : (choices : List ℕ) (p : Pair) (whole : List Pair) → list_any (is_pair p) whole ≡ true → contains_all choices whole ≡ true → picks choices p ≡ true
picks_one choices p [] some all = absurd (cc some)
picks_one choices p (q ∷ qs) some all =
    let parts = and_parts (picks choices q) (contains_all choices qs) all in
    ⊎_elim (λ e. ap (picks choices) (same_pair p q e) ∙ parts.0) (λ e. picks_one choices p qs e parts.1) (or_cases (is_pair p q) (list_any (is_pair p) qs) some)

-- what contains the whole contains the part
contains_part : (choices : List ℕ) (whole part : List Pair) → has_pairs whole part ≡ true → contains_all choices whole ≡ true → contains_all choices part ≡ true
contains_part choices whole [] has all = refl
contains_part choices whole (p ∷ ps) has all =
    let parts = and_parts (list_any (is_pair p) whole) (has_pairs whole ps) has in
    and_from (picks choices p) (contains_all choices ps) (picks_one choices p whole parts.0 all) (contains_part choices whole ps parts.1 all)

abbrev apart_from : List Pair → List (List Pair) → Bool
apart_from c cs = list_all (λ d. not (has_pairs c d) && not (has_pairs d c)) cs

-- one more that is apart from all
none_in_more : (cs : List (List Pair)) (c : List Pair) → none_in_another cs ≡ true → list_all (λ d. not (has_pairs d c) && not (has_pairs c d)) cs ≡ true → none_in_another (cs ++ (c ∷ [])) ≡ true
none_in_more [] c none apart = refl
none_in_more (d ∷ ds) c none apart =
    let parts = and_parts (apart_from d ds) (none_in_another ds) none in
    let far = and_parts (not (has_pairs d c) && not (has_pairs c d)) (list_all (λ e. not (has_pairs e c) && not (has_pairs c e)) ds) apart in
    and_from (apart_from d (ds ++ (c ∷ []))) (none_in_another (ds ++ (c ∷ []))) (one_more ds parts.0 far.0) (none_in_more ds c parts.1 far.1)
  where
    one_more : (es : List (List Pair)) → apart_from d es ≡ true → (not (has_pairs d c) && not (has_pairs c d)) ≡ true → apart_from d (es ++ (c ∷ [])) ≡ true
    one_more [] all far = and_from (not (has_pairs d c) && not (has_pairs c d)) true far refl
    one_more (e ∷ es) all far =
        let here = and_parts (not (has_pairs d e) && not (has_pairs e d)) (apart_from d es) all in
        and_from (not (has_pairs d e) && not (has_pairs e d)) (apart_from d (es ++ (c ∷ []))) here.0 (one_more es here.1 far)

module _ (alike : Rank → Rank → Bool) (suits fits : Candidate → Bool) (reason : Candidate → List Pair) (minimal : AreMinimal suits fits reason) where
  -- a refused candidate's reason
  pub record IsReason (conflict : List Pair) : Type 0 where
    pub of : Candidate
    pub suit : suits of ≡ true
    pub unfit : fits of ≡ false
    pub is : conflict ≡ reason of

  all_more : (kept : List (List Pair)) (c : List Pair) → AllByRecursion IsReason kept → IsReason c → AllByRecursion IsReason (kept ++ (c ∷ []))
  all_more [] c all one = (one, all)
  all_more (d ∷ ds) c all one = (all.0, all_more ds c all.1 one)

  -- the reason of one that isn't ruled out is apart from what is kept
  far_from_kept : (c : Candidate) → suits c ≡ true → fits c ≡ false → (kept : List (List Pair)) → AllByRecursion IsReason kept → is_ruled_out kept c.choices ≡ false
      → list_all (λ d. not (has_pairs d (reason c)) && not (has_pairs (reason c) d)) kept ≡ true
  far_from_kept c suit unfit [] all free = refl
  far_from_kept c suit unfit (d ∷ ds) all free =
      let parts = or_parts (contains_all c.choices d) (is_ruled_out ds c.choices) free in
      let not_in : has_pairs (reason c) d ≡ false =
      false_from_ne_true (has_pairs (reason c) d) (λ h. both_ways (contains_all c.choices d) parts.0 (contains_part c.choices (reason c) d h (minimal.inside c suit unfit)))
      in
      let nor_out : has_pairs d (reason c) ≡ false =
      false_from_ne_true (has_pairs d (reason c)) (λ h.
      both_ways (has_pairs (reason c) d) not_in
      (ap (has_pairs (reason c)) all.0.is
      ∙ minimal.whole all.0.of c all.0.suit suit all.0.unfit unfit (sym (ap (λ e. has_pairs e (reason c)) all.0.is) ∙ h)))
      in
      and_from (not (has_pairs d (reason c)) && not (has_pairs (reason c) d)) (list_all (λ e. not (has_pairs e (reason c)) && not (has_pairs (reason c) e)) ds)
      (and_from (not (has_pairs d (reason c))) (not (has_pairs (reason c) d)) (not_from_false (has_pairs d (reason c)) nor_out) (not_from_false (has_pairs (reason c) d) not_in))
      (far_from_kept c suit unfit ds all.1 parts.1)

  pub kept_apart : (k budget : ℕ) (left listed : List Rank) (kept : List (List Pair)) → list_all (λ (r : Rank). suits (candidate_of r)) left ≡ true → AllByRecursion IsReason kept
      → none_in_another kept ≡ true → none_in_another (walk_from alike fits reason k budget listed kept left).kept ≡ true
  kept_apart k budget [] listed kept suit all none = none
  kept_apart k budget (r ∷ rs) listed kept suit all none =
      let parts = and_parts (suits (candidate_of r)) (list_all (λ (q : Rank). suits (candidate_of q)) rs) suit in
      turn alike fits reason k budget (λ w. none_in_another w.kept ≡ true) r rs listed kept
      (λ _. none)
      (λ _. kept_apart k budget rs listed kept parts.1 all none)
      (λ _. kept_apart k budget rs listed kept parts.1 all none)
      (λ _. none)
      (λ _ _ _ _. kept_apart k budget rs (listed ++ (r ∷ [])) kept parts.1 all none)
      (λ free _ unfit.
      kept_apart k budget rs listed (kept ++ (reason (candidate_of r) ∷ [])) parts.1
      (all_more kept (reason (candidate_of r)) all (record { of = candidate_of r; suit = parts.0; unfit = unfit; is = refl }))
      (none_in_more kept (reason (candidate_of r)) none (far_from_kept (candidate_of r) parts.0 unfit kept all free)))

  pub walk_kept_apart : (k budget : ℕ) (entries : List Rank) → list_all (λ (r : Rank). suits (candidate_of r)) entries ≡ true → none_in_another (walk_from alike fits reason k budget [] [] entries).kept ≡ true
  walk_kept_apart k budget entries suit = kept_apart k budget entries [] [] suit tt refl
