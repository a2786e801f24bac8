-- A walk whose reasons are what deletion leaves of the pairs of a candidate: the conflicts that it keeps are impossible, each of their
-- pairs is needed, and none has all pairs of another.
use Rattle.std.proofs.Common.{◌≡◌, ℕ, Bool, true, false, not, nat_eq, ◌&&◌, List, [], ◌∷◌, ◌++◌, sym, subst, ap, ◌∙◌, Contains, append_assoc, ◌⊎◌, inl, inr, refl, ⊎_elim, arith}
use Rattle.std.specs.List.{list_all, list_any}
use Rattle.std.proofs.lemmas.Bool.{and_parts, and_from, or_cases, or_left, or_right, eqb-true, eq-eqb}
use Rattle.std.proofs.lemmas.List.Elements.{Contains-append_left, Contains-append_right, Contains-append_cases, Contains-push_cases}
use Rattle.std.proofs.lemmas.List.Folds.{list_all-append}
use Rattle.lv_base.specs.declared.rank.Rank.{Rank}
use Rattle.lv_base.specs.declared.search.Pair.{Pair}
use Rattle.lv_base.specs.declared.search.Candidate.{Candidate}
use Rattle.lv_base.specs.Choices.{picks, pairs_of}
use Rattle.lv_boxes.specs.Reason.{reduced}
use Rattle.lv_boxes.specs.Walk.{candidate_of, walk_from, distinct_walk}
use Rattle.lv_boxes.specs.WalkLaws.{IsMonotone, each_is_needed, is_pair, has_pairs, none_in_another, AreMinimal}
use Rattle.lv_boxes.proofs.WalkLemmas.{turn}
use Rattle.lv_boxes.proofs.KeptLemmas.{walk_kept_apart}
use Rattle.lv_boxes.proofs.ReasonLemmas.{still_impossible, part_of_all, all_needed}

none_in : (p : Pair) → Contains [] p → ⊥
none_in p h = absurd (omega (arith, h.1))

first_in : (p : Pair) (ps : List Pair) → Contains (p ∷ ps) p
first_in p ps = (0, omega arith, refl)

later_in : (q p : Pair) (ps : List Pair) → Contains ps p → Contains (q ∷ ps) p
later_in q p ps = Contains-append_right (q ∷ []) ps p

in_cases : (q p : Pair) (ps : List Pair) → Contains (q ∷ ps) p → (q ≡ p) ⊎ Contains ps p
in_cases q p ps h =
    ⊎_elim (λ first. ⊎_elim (λ none. absurd (none_in p none)) (λ same. inl same) (Contains-push_cases [] q p first)) (λ later. inr later)
    (Contains-append_cases (q ∷ []) ps p h)

same_pair : (p q : Pair) → is_pair p q ≡ true → p ≡ q
same_pair p q h =
    let parts = and_parts (nat_eq p.slot q.slot) (nat_eq p.choice q.choice) h in
    let slot : p.slot ≡ q.slot = eqb-true p.slot q.slot parts.0 in
    let choice : p.choice ≡ q.choice = eqb-true p.choice q.choice parts.1 in
    λ i. record { slot = slot i; choice = choice i }

pair_itself : (p : Pair) → is_pair p p ≡ true
pair_itself p = and_from (nat_eq p.slot p.slot) (nat_eq p.choice p.choice) (eq-eqb p.slot p.slot refl) (eq-eqb p.choice p.choice refl)

there : (p : Pair) (ps : List Pair) → list_any (is_pair p) ps ≡ true → Contains ps p
there p [] h = absurd (cc h)
there p (q ∷ qs) h =
    ⊎_elim (λ e. subst (λ (x : Pair). Contains (q ∷ qs) x) (sym (same_pair p q e)) (first_in q qs)) (λ e. later_in q p qs (there p qs e))
    (or_cases (is_pair p q) (list_any (is_pair p) qs) h)

here : (p : Pair) (ps : List Pair) → Contains ps p → list_any (is_pair p) ps ≡ true
here p [] h = absurd (none_in p h)
here p (q ∷ qs) h = elim (in_cases q p qs h) [
  | inl same ↦ or_left (is_pair p q) (list_any (is_pair p) qs) (subst (λ (x : Pair). is_pair p x ≡ true) (sym same) (pair_itself p))
  | inr later ↦ or_right (is_pair p q) (list_any (is_pair p) qs) (here p qs later)
]

all_there : (whole part : List Pair) → has_pairs whole part ≡ true → (p : Pair) → Contains part p → Contains whole p
all_there whole [] h p inside = absurd (none_in p inside)
all_there whole (q ∷ qs) h p inside =
    let two = and_parts (list_any (is_pair q) whole) (has_pairs whole qs) h in
    elim (in_cases q p qs inside) [
      | inl same ↦ subst (λ (x : Pair). Contains whole x) same (there q whole two.0)
      | inr later ↦ all_there whole qs two.1 p later
    ]

-- what each reason passes each kept conflict passes
module _ (alike : Rank → Rank → Bool) (fits : Candidate → Bool) (reason : Candidate → List Pair) (p : List Pair → Bool) (passes : (c : Candidate) → fits c ≡ false → p (reason c) ≡ true) where
  kept_pass : (k budget : ℕ) (left listed : List Rank) (kept : List (List Pair)) → list_all p kept ≡ true → list_all p (walk_from alike fits reason k budget listed kept left).kept ≡ true
  kept_pass k budget [] listed kept all = all
  kept_pass k budget (r ∷ rs) listed kept all =
      turn alike fits reason k budget (λ w. list_all p w.kept ≡ true) r rs listed kept
      (λ _. all)
      (λ _. kept_pass k budget rs listed kept all)
      (λ _. kept_pass k budget rs listed kept all)
      (λ _. all)
      (λ _ _ _ _. kept_pass k budget rs (listed ++ (r ∷ [])) kept all)
      (λ _ _ unfit. kept_pass k budget rs listed (kept ++ (reason (candidate_of r) ∷ [])) (list_all-append p kept (reason (candidate_of r) ∷ []) ∙ and_from (list_all p kept) (p (reason (candidate_of r)) && true) all (and_from (p (reason (candidate_of r))) true (passes (candidate_of r) unfit) refl)))

abbrev any_candidate : Candidate → Bool
any_candidate c = true

all_suit_any : (ranks : List Rank) → list_all (λ (r : Rank). any_candidate (candidate_of r)) ranks ≡ true
all_suit_any [] = refl
all_suit_any (r ∷ rs) = all_suit_any rs

-- a test of pairs that parts of what is possible pass, and each list of choices has its own pairs
module _ (possible : List Pair → Bool) (monotone : IsMonotone possible)
    (parts : (part whole : List Pair) → ((p : Pair) → Contains part p → Contains whole p) → possible whole ≡ true → possible part ≡ true)
    (own : (cs : List ℕ) → list_all (picks cs) (pairs_of cs) ≡ true) where
  abbrev fits : Candidate → Bool
  fits c = possible (pairs_of c.choices)

  abbrev reason : Candidate → List Pair
  reason c = reduced possible [] (pairs_of c.choices)

  module _ (other : List Pair) (never : possible other ≡ false) where
    -- of pairs of which the other list has only such as are in them, one that is needed is in the other list
    needed_there : (front back : List Pair) (p : Pair) → possible (front ++ back) ≡ true → ((q : Pair) → Contains other q → Contains (front ++ (p ∷ back)) q) → list_any (is_pair p) other ≡ true
    needed_there front back p can inside = by (list_any (is_pair p) other) refl
      where
        rest : list_any (is_pair p) other ≡ false → (q : Pair) → Contains other q → Contains (front ++ back) q
        rest absent q has = elim (Contains-append_cases front (p ∷ back) q (inside q has)) [
          | inl before ↦ Contains-append_left front back q before
          | inr behind ↦
              elim (in_cases p q back behind) [
                | inl same ↦ let clash : true ≡ false = sym (here p other (subst (λ (x : Pair). Contains other x) (sym same) has)) ∙ absent in absurd (cc clash)
                | inr later ↦ Contains-append_right front back q later
              ]
        ]

        by : (b : Bool) → list_any (is_pair p) other ≡ b → b ≡ true
        by true e = refl
        by false e = let clash : true ≡ false = sym (parts other (front ++ back) (rest e) can) ∙ never in absurd (cc clash)

    all_needed_there : (front back : List Pair) → each_is_needed possible front back ≡ true → ((q : Pair) → Contains other q → Contains (front ++ back) q) → has_pairs other back ≡ true
    all_needed_there front [] h inside = refl
    all_needed_there front (p ∷ back) h inside =
        let two = and_parts (possible (front ++ back)) (each_is_needed possible (front ++ (p ∷ [])) back) h in
        and_from (list_any (is_pair p) other) (has_pairs other back) (needed_there front back p two.0 inside)
        (all_needed_there (front ++ (p ∷ [])) back two.1 (λ q has. subst (λ (ps : List Pair). Contains ps q) (sym (append_assoc front (p ∷ []) back)) (inside q has)))

  pub reason_impossible : (c : Candidate) → fits c ≡ false → possible (reason c) ≡ false
  reason_impossible c = still_impossible possible [] (pairs_of c.choices)

  reason_needed : (c : Candidate) → each_is_needed possible [] (reason c) ≡ true
  reason_needed c = all_needed possible monotone [] (pairs_of c.choices) refl

  reasons_are_minimal : AreMinimal any_candidate fits reason
  reasons_are_minimal =
      record {
        inside = λ c suit unfit. part_of_all possible (picks c.choices) [] (pairs_of c.choices) refl (own c.choices);
        whole = λ c d suit other_suit unfit other_unfit has.
            all_needed_there (reason d) (reason_impossible d other_unfit) [] (reason c) (reason_needed c) (all_there (reason c) (reason d) has);
      }

  pub kept_apart : (alike : Rank → Rank → Bool) (k budget : ℕ) (ranks : List Rank) → none_in_another (distinct_walk alike fits reason k budget ranks).kept ≡ true
  kept_apart alike k budget ranks = walk_kept_apart alike any_candidate fits reason reasons_are_minimal k budget ranks (all_suit_any ranks)

  pub kept_impossible : (alike : Rank → Rank → Bool) (k budget : ℕ) (ranks : List Rank) → list_all (λ conflict. not (possible conflict)) (distinct_walk alike fits reason k budget ranks).kept ≡ true
  kept_impossible alike k budget ranks = kept_pass alike fits reason (λ conflict. not (possible conflict)) (λ c unfit. ap not (reason_impossible c unfit)) k budget ranks [] [] refl

  pub kept_needed : (alike : Rank → Rank → Bool) (k budget : ℕ) (ranks : List Rank) → list_all (each_is_needed possible []) (distinct_walk alike fits reason k budget ranks).kept ≡ true
  kept_needed alike k budget ranks = kept_pass alike fits reason (each_is_needed possible []) (λ c unfit. reason_needed c) k budget ranks [] [] refl
