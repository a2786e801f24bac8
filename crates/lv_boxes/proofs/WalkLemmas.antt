-- What a walk promises, by one way to go through its turns.
use Rattle.std.proofs.Common.{◌≡◌, ◌≢◌, ℕ, suc, ◌+◌, ◌-◌, ◌≤◌, Bool, true, false, ◌||◌, List, [], ◌∷◌, ◌++◌, length, take, filter, ⊎_elim, refl, sym, ◌∙◌, ap, cond, nat_eq, arith, append_assoc, append-nil}
use Rattle.std.specs.List.{list_all, list_any}
use Rattle.std.proofs.Math.Seq.{take-nil}
use Rattle.std.proofs.lemmas.Bool.{and_from, and_parts, or_left, or_right, or_cases, eqb-true, eqb-false}
use Rattle.std.proofs.lemmas.List.{length-append}
use Rattle.std.proofs.lemmas.List.Folds.{list_all-append, list_any-append}
use Rattle.lv_base.specs.declared.rank.Rank.{Rank}
use Rattle.lv_base.specs.declared.search.Pair.{Pair}
use Rattle.lv_base.specs.declared.search.Candidate.{Candidate}
use Rattle.lv_base.specs.Choices.{contains_all}
use Rattle.lv_boxes.specs.declared.outcome.Outcome.{Outcome}
use Rattle.lv_boxes.specs.declared.outcome.Outcome.TheVariants.{Settled, Unsettled}
use Rattle.lv_boxes.specs.Walk.{Walked, candidate_of, is_ruled_out, none_alike, walk_from, walk, distinct_walk, suit_all, first_of_each, first_of_each_behind}
use Rattle.lv_boxes.specs.WalkLaws.{IsSound, IsTransitive}

-- no walk is both settled and not
pub not_settled : Unsettled ≡ Settled → ⊥
not_settled e = let clash : true ≡ false = ap is_unsettled e in cc clash
  where
    is_unsettled : Outcome → Bool
    is_unsettled Settled = false
    is_unsettled Unsettled = true

module _ (alike : Rank → Rank → Bool) (fits : Candidate → Bool) (reason : Candidate → List Pair) (k : ℕ) where
  abbrev passes : Rank → Bool
  passes r = fits (candidate_of r)

  module _ (budget : ℕ) where
    -- what holds however the next turn goes holds of the walk
    pub turn : (P : Walked → Type 0) (r : Rank) (rs listed : List Rank) (kept : List (List Pair))
        → (nat_eq (length listed) k ≡ true → P (record { outcome = Settled; listed = listed; kept = kept }))
        → (is_ruled_out kept r.choices ≡ true → P (walk_from alike fits reason k budget listed kept rs))
        → (list_any (alike r) listed ≡ true → P (walk_from alike fits reason k budget listed kept rs))
        → (nat_eq (length listed + length kept) budget ≡ true → P (record { outcome = Unsettled; listed = listed; kept = kept }))
        → (nat_eq (length listed) k ≡ false → list_any (alike r) listed ≡ false → nat_eq (length listed + length kept) budget ≡ false → passes r ≡ true
        → P (walk_from alike fits reason k budget (listed ++ (r ∷ [])) kept rs))
        → (is_ruled_out kept r.choices ≡ false → nat_eq (length listed + length kept) budget ≡ false → passes r ≡ false → P (walk_from alike fits reason k budget listed (kept ++ (reason (candidate_of r) ∷ [])) rs))
        → P (walk_from alike fits reason k budget listed kept (r ∷ rs))
    turn P r rs listed kept enough passed repeated used_up fitting refused =
        by (nat_eq (length listed) k) refl (is_ruled_out kept r.choices) refl (list_any (alike r) listed) refl (nat_eq (length listed + length kept) budget) refl (passes r) refl
      where
        by : (a : Bool) → nat_eq (length listed) k ≡ a → (b : Bool) → is_ruled_out kept r.choices ≡ b → (l : Bool) → list_any (alike r) listed ≡ l
            → (d : Bool) → nat_eq (length listed + length kept) budget ≡ d → (e : Bool) → passes r ≡ e
            → P (cond a (record { outcome = Settled; listed = listed; kept = kept })
            (cond b (walk_from alike fits reason k budget listed kept rs)
            (cond l (walk_from alike fits reason k budget listed kept rs)
            (cond d (record { outcome = Unsettled; listed = listed; kept = kept })
            (cond e (walk_from alike fits reason k budget (listed ++ (r ∷ [])) kept rs) (walk_from alike fits reason k budget listed (kept ++ (reason (candidate_of r) ∷ [])) rs))))))
        by true p b q l h d u e v = enough p
        by false p true q l h d u e v = passed q
        by false p false q true h d u e v = repeated h
        by false p false q false h true u e v = used_up u
        by false p false q false h false u true v = fitting p h u v
        by false p false q false h false u false v = refused q u v

    one_more : (r : Rank) (listed : List Rank) → length listed ≤ k → nat_eq (length listed) k ≡ false → length (listed ++ (r ∷ [])) ≤ k
    one_more r listed few e =
        let other : length listed ≢ k = eqb-false (length listed) k e in
        rw length-append (omega arith)

    pub at_most : (left listed : List Rank) (kept : List (List Pair)) → length listed ≤ k → length (walk_from alike fits reason k budget listed kept left).listed ≤ k
    at_most [] listed kept few = few
    at_most (r ∷ rs) listed kept few =
        turn (λ w. length w.listed ≤ k) r rs listed kept
        (λ _. few)
        (λ _. at_most rs listed kept few)
        (λ _. at_most rs listed kept few)
        (λ _. few)
        (λ e _ _ _. at_most rs (listed ++ (r ∷ [])) kept (one_more r listed few e))
        (λ _ _ _. at_most rs listed (kept ++ (reason (candidate_of r) ∷ [])) few)

    pub all_fit : (left listed : List Rank) (kept : List (List Pair)) → list_all passes listed ≡ true → list_all passes (walk_from alike fits reason k budget listed kept left).listed ≡ true
    all_fit [] listed kept fit = fit
    all_fit (r ∷ rs) listed kept fit =
        turn (λ w. list_all passes w.listed ≡ true) r rs listed kept
        (λ _. fit)
        (λ _. all_fit rs listed kept fit)
        (λ _. all_fit rs listed kept fit)
        (λ _. fit)
        (λ _ _ _ f. all_fit rs (listed ++ (r ∷ [])) kept (list_all-append passes listed (r ∷ []) ∙ and_from (list_all passes listed) (list_all passes (r ∷ [])) fit (and_from (passes r) true f refl)))
        (λ _ _ _. all_fit rs listed (kept ++ (reason (candidate_of r) ∷ [])) fit)

    -- the first of each are no more than all
    first_few : (before rs : List Rank) → length (first_of_each_behind alike before rs) ≤ length rs
    first_few before [] = omega arith
    first_few before (r ∷ rs) = by (list_any (alike r) before) (first_few (before ++ (r ∷ [])) rs)
      where
        by : (b : Bool) → length (first_of_each_behind alike (before ++ (r ∷ [])) rs) ≤ length rs
            → length (cond b (first_of_each_behind alike (before ++ (r ∷ [])) rs) (r ∷ first_of_each_behind alike (before ++ (r ∷ [])) rs)) ≤ length (r ∷ rs)
        by true few = omega (arith, few)
        by false few = omega (arith, few)

    -- no listed one is alike one before it
    first_more : (r : Rank) (before listed : List Rank) → list_any (alike r) (before ++ listed) ≡ false → first_of_each_behind alike before listed ≡ listed
        → first_of_each_behind alike before (listed ++ (r ∷ [])) ≡ listed ++ (r ∷ [])
    first_more r before [] e each = ap (λ t. cond t [] (r ∷ [])) (sym (ap (λ xs. list_any (alike r) xs) (append-nil before)) ∙ e)
    first_more r before (q ∷ qs) e each = by (list_any (alike q) before) refl each (first_more r (before ++ (q ∷ [])) qs longer)
      where
        longer : list_any (alike r) ((before ++ (q ∷ [])) ++ qs) ≡ false
        longer = ap (λ xs. list_any (alike r) xs) (append_assoc before (q ∷ []) qs) ∙ e

        tail_of : List Rank → List Rank
        tail_of [] = []
        tail_of (x ∷ xs) = xs

        by : (b : Bool) → list_any (alike q) before ≡ b → cond b (first_of_each_behind alike (before ++ (q ∷ [])) qs) (q ∷ first_of_each_behind alike (before ++ (q ∷ [])) qs) ≡ q ∷ qs
            → (first_of_each_behind alike (before ++ (q ∷ [])) qs ≡ qs → first_of_each_behind alike (before ++ (q ∷ [])) (qs ++ (r ∷ [])) ≡ qs ++ (r ∷ []))
            → first_of_each_behind alike before (q ∷ (qs ++ (r ∷ []))) ≡ q ∷ (qs ++ (r ∷ []))
        by true h is more =
            let few : length (first_of_each_behind alike (before ++ (q ∷ [])) qs) ≤ length qs = first_few (before ++ (q ∷ [])) qs in
            let same : length (first_of_each_behind alike (before ++ (q ∷ [])) qs) ≡ length (q ∷ qs) = ap (λ xs. length xs) is in
            absurd (omega (arith, few, same))
        by false h is more =
            ap (λ t. cond t (first_of_each_behind alike (before ++ (q ∷ [])) (qs ++ (r ∷ []))) (q ∷ first_of_each_behind alike (before ++ (q ∷ [])) (qs ++ (r ∷ [])))) h
            ∙ ap (λ ys. q ∷ ys) (more (ap tail_of is))

    pub each_first : (left listed : List Rank) (kept : List (List Pair)) → first_of_each alike listed ≡ listed
        → first_of_each alike (walk_from alike fits reason k budget listed kept left).listed ≡ (walk_from alike fits reason k budget listed kept left).listed
    each_first [] listed kept first = first
    each_first (r ∷ rs) listed kept first =
        turn (λ w. first_of_each alike w.listed ≡ w.listed) r rs listed kept
        (λ _. first)
        (λ _. each_first rs listed kept first)
        (λ _. each_first rs listed kept first)
        (λ _. first)
        (λ _ h _ _. each_first rs (listed ++ (r ∷ [])) kept (first_more r [] listed h first))
        (λ _ _ _. each_first rs listed (kept ++ (reason (candidate_of r) ∷ [])) first)

    listed_more : (r : Rank) (listed : List Rank) (kept : List (List Pair)) → length listed + length kept ≤ budget → nat_eq (length listed + length kept) budget ≡ false
        → length (listed ++ (r ∷ [])) + length kept ≤ budget
    listed_more r listed kept few e =
        let other : length listed + length kept ≢ budget = eqb-false (length listed + length kept) budget e in
        rw length-append (omega arith)

    kept_more : (r : Rank) (listed : List Rank) (kept : List (List Pair)) → length listed + length kept ≤ budget → nat_eq (length listed + length kept) budget ≡ false
        → length listed + length (kept ++ (reason (candidate_of r) ∷ [])) ≤ budget
    kept_more r listed kept few e =
        let other : length listed + length kept ≢ budget = eqb-false (length listed + length kept) budget e in
        rw length-append (omega arith)

    pub within_budget : (left listed : List Rank) (kept : List (List Pair)) → length listed + length kept ≤ budget
        → length (walk_from alike fits reason k budget listed kept left).listed + length (walk_from alike fits reason k budget listed kept left).kept ≤ budget
    within_budget [] listed kept few = few
    within_budget (r ∷ rs) listed kept few =
        turn (λ w. length w.listed + length w.kept ≤ budget) r rs listed kept
        (λ _. few)
        (λ _. within_budget rs listed kept few)
        (λ _. within_budget rs listed kept few)
        (λ _. few)
        (λ _ _ u _. within_budget rs (listed ++ (r ∷ [])) kept (listed_more r listed kept few u))
        (λ _ u _. within_budget rs listed (kept ++ (reason (candidate_of r) ∷ [])) (kept_more r listed kept few u))

    pub used_up_unsettled : (left listed : List Rank) (kept : List (List Pair)) → (walk_from alike fits reason k budget listed kept left).outcome ≡ Unsettled
        → length (walk_from alike fits reason k budget listed kept left).listed + length (walk_from alike fits reason k budget listed kept left).kept ≡ budget
    used_up_unsettled [] listed kept = λ e. absurd (not_settled (sym e))
    used_up_unsettled (r ∷ rs) listed kept =
        turn (λ w. w.outcome ≡ Unsettled → length w.listed + length w.kept ≡ budget) r rs listed kept
        (λ _ e. absurd (not_settled (sym e)))
        (λ _. used_up_unsettled rs listed kept)
        (λ _. used_up_unsettled rs listed kept)
        (λ u _. eqb-true (length listed + length kept) budget u)
        (λ _ _ _ _. used_up_unsettled rs (listed ++ (r ∷ [])) kept)
        (λ _ _ _. used_up_unsettled rs listed (kept ++ (reason (candidate_of r) ∷ [])))

    pub with_ample : (left listed : List Rank) (kept : List (List Pair)) → length listed + length kept + length left ≤ budget → (walk_from alike fits reason k budget listed kept left).outcome ≡ Settled
    with_ample [] listed kept ample = refl
    with_ample (r ∷ rs) listed kept ample =
        turn (λ w. w.outcome ≡ Settled) r rs listed kept
        (λ _. refl)
        (λ _. with_ample rs listed kept (omega arith))
        (λ _. with_ample rs listed kept (omega arith))
        (λ e. let full : length listed + length kept ≡ budget = eqb-true (length listed + length kept) budget e in absurd (omega arith))
        (λ _ _ _ _. with_ample rs (listed ++ (r ∷ [])) kept (rw length-append (omega arith)))
        (λ _ _ _. with_ample rs listed (kept ++ (reason (candidate_of r) ∷ [])) (rw length-append (omega arith)))

    filter_yes : (r : Rank) (rs : List Rank) → passes r ≡ true → filter passes (r ∷ rs) ≡ r ∷ filter passes rs
    filter_yes r rs e = ap (λ t. cond t (r ∷ filter passes rs) (filter passes rs)) e

    filter_no : (r : Rank) (rs : List Rank) → passes r ≡ false → filter passes (r ∷ rs) ≡ filter passes rs
    filter_no r rs e = ap (λ t. cond t (r ∷ filter passes rs) (filter passes rs)) e

    none_taken : (xs : List Rank) (n : ℕ) → n ≡ 0 → take n xs ≡ []
    none_taken xs n e = ap (λ m. take m xs) e

    -- what is ruled out doesn't fit
    unfit : (b c : Bool) → (b ≡ true → c ≡ false) → c ≡ true → b ≡ false
    unfit true c apart is = sym is ∙ apart refl
    unfit false c apart is = refl

    module _ (suits : Candidate → Bool) (sound : IsSound suits fits reason) where
      -- no kept conflict is in a candidate that suits and fits
      abbrev pub SparesFitting : List (List Pair) → Type 0
      SparesFitting kept = (d : Candidate) → suits d ≡ true → fits d ≡ true → is_ruled_out kept d.choices ≡ false

      still_spares : (r : Rank) (kept : List (List Pair)) → suits (candidate_of r) ≡ true → passes r ≡ false → SparesFitting kept → SparesFitting (kept ++ (reason (candidate_of r) ∷ []))
      still_spares r kept suit e apart d s f =
          list_any-append (contains_all d.choices) kept (reason (candidate_of r) ∷ [])
          ∙ (λ i. apart d s f i || (sound.apart (candidate_of r) d suit s e f i || false))

      module _ (joined : IsTransitive alike) where
        -- what is alike an entry that is alike a listed one is alike that one
        alike_listed : (q r : Rank) (listed : List Rank) → alike q r ≡ true → list_any (alike r) listed ≡ true → list_any (alike q) listed ≡ true
        alike_listed q r [] e some = absurd (cc some)
        alike_listed q r (p ∷ ps) e some =
            ⊎_elim (λ h. or_left (alike q p) (list_any (alike q) ps) (joined q r p e h))
            (λ h. or_right (alike q p) (list_any (alike q) ps) (alike_listed q r ps e h))
            (or_cases (alike r p) (list_any (alike r) ps) some)

        -- an entry is alike one of those that came before exactly where it is alike a listed one
        abbrev pub Covers : List Rank → List Rank → Type 0
        Covers listed before = (q : Rank) → list_any (alike q) before ≡ list_any (alike q) listed

        absorbed : (a b c : Bool) → a ≡ b → (c ≡ true → b ≡ true) → (a || (c || false)) ≡ b
        absorbed a true c e h = ap (λ (x : Bool). x || (c || false)) e
        absorbed a false true e h = absurd (cc (h refl))
        absorbed a false false e h = ap (λ (x : Bool). x || false) e

        covers_repeated : (r : Rank) (listed before : List Rank) → Covers listed before → list_any (alike r) listed ≡ true → Covers listed (before ++ (r ∷ []))
        covers_repeated r listed before covers some q =
            list_any-append (alike q) before (r ∷ [])
            ∙ absorbed (list_any (alike q) before) (list_any (alike q) listed) (alike q r) (covers q) (λ e. alike_listed q r listed e some)

        covers_listed : (r : Rank) (listed before : List Rank) → Covers listed before → Covers (listed ++ (r ∷ [])) (before ++ (r ∷ []))
        covers_listed r listed before covers q =
            list_any-append (alike q) before (r ∷ []) ∙ ap (λ (x : Bool). x || (alike q r || false)) (covers q) ∙ sym (list_any-append (alike q) listed (r ∷ []))

        -- an entry that is alike one before it isn't among the first of each, another one is
        repeated_out : (r : Rank) (rs before : List Rank) → list_any (alike r) before ≡ true → first_of_each_behind alike before (r ∷ rs) ≡ first_of_each_behind alike (before ++ (r ∷ [])) rs
        repeated_out r rs before e = ap (λ t. cond t (first_of_each_behind alike (before ++ (r ∷ [])) rs) (r ∷ first_of_each_behind alike (before ++ (r ∷ [])) rs)) e

        first_in : (r : Rank) (rs before : List Rank) → list_any (alike r) before ≡ false → first_of_each_behind alike before (r ∷ rs) ≡ r ∷ first_of_each_behind alike (before ++ (r ∷ [])) rs
        first_in r rs before e = ap (λ t. cond t (first_of_each_behind alike (before ++ (r ∷ [])) rs) (r ∷ first_of_each_behind alike (before ++ (r ∷ [])) rs)) e

        abbrev Exact : List Rank → List Rank → ℕ → List Rank → Walked → Type 0
        Exact listed before room left w = w.outcome ≡ Settled → w.listed ≡ listed ++ take room (first_of_each_behind alike before (filter passes left))

        -- one that doesn't fit changes nothing
        skipped : (r : Rank) (rs listed before : List Rank) (w : Walked) → passes r ≡ false → Exact listed before (k - length listed) rs w → Exact listed before (k - length listed) (r ∷ rs) w
        skipped r rs listed before w e go s = go s ∙ sym (ap (λ ys. listed ++ take (k - length listed) (first_of_each_behind alike before ys)) (filter_no r rs e))

        pub is_exact : (left listed before : List Rank) (kept : List (List Pair)) → list_all (λ (r : Rank). suits (candidate_of r)) left ≡ true → length listed ≤ k
            → Covers listed before → SparesFitting kept → Exact listed before (k - length listed) left (walk_from alike fits reason k budget listed kept left)
        is_exact [] listed before kept suit few covers apart = λ _. sym (ap (λ ys. listed ++ ys) (take-nil (k - length listed)) ∙ append-nil listed)
        is_exact (r ∷ rs) listed before kept suit few covers apart =
            let parts = and_parts (suits (candidate_of r)) (list_all (λ (q : Rank). suits (candidate_of q)) rs) suit in
            turn (Exact listed before (k - length listed) (r ∷ rs)) r rs listed kept
            (λ e _.
            let full : length listed ≡ k = eqb-true (length listed) k e in
            sym (ap (λ ys. listed ++ ys) (none_taken (first_of_each_behind alike before (filter passes (r ∷ rs))) (k - length listed) (omega arith)) ∙ append-nil listed))
            (λ e. skipped r rs listed before (walk_from alike fits reason k budget listed kept rs) (unfit (passes r) (is_ruled_out kept r.choices) (apart (candidate_of r) parts.0) e) (is_exact rs listed before kept parts.1 few covers apart))
            (λ h. by_fit h (passes r) refl (is_exact rs listed before kept parts.1 few covers apart) (is_exact rs listed (before ++ (r ∷ [])) kept parts.1 few (covers_repeated r listed before covers h) apart))
            (λ _ s. absurd (not_settled s))
            (λ e h _ f s.
            let other : length listed ≢ k = eqb-false (length listed) k e in
            let longer : k - length listed ≡ suc (k - length (listed ++ (r ∷ []))) = rw length-append (omega arith) in
            let behind = first_of_each_behind alike (before ++ (r ∷ [])) (filter passes rs) in
            is_exact rs (listed ++ (r ∷ [])) (before ++ (r ∷ [])) kept parts.1 (one_more r listed few e) (covers_listed r listed before covers) apart s
            ∙ append_assoc listed (r ∷ []) (take (k - length (listed ++ (r ∷ []))) behind)
            ∙ ap (λ n. listed ++ take n (r ∷ behind)) (sym longer)
            ∙ ap (λ ys. listed ++ take (k - length listed) ys)
            (sym (ap (first_of_each_behind alike before) (filter_yes r rs f) ∙ first_in r (filter passes rs) before (covers r ∙ h))))
            (λ _ _ e. skipped r rs listed before (walk_from alike fits reason k budget listed (kept ++ (reason (candidate_of r) ∷ [])) rs) e (is_exact rs listed before (kept ++ (reason (candidate_of r) ∷ [])) parts.1 few covers (still_spares r kept parts.0 e apart)))
          where
            -- one that is alike a listed one isn't among the first of each, whether it fits or not
            by_fit : list_any (alike r) listed ≡ true → (b : Bool) → passes r ≡ b
                → Exact listed before (k - length listed) rs (walk_from alike fits reason k budget listed kept rs)
                → Exact listed (before ++ (r ∷ [])) (k - length listed) rs (walk_from alike fits reason k budget listed kept rs)
                → Exact listed before (k - length listed) (r ∷ rs) (walk_from alike fits reason k budget listed kept rs)
            by_fit h true e out go s =
                go s ∙ sym (ap (λ ys. listed ++ take (k - length listed) ys) (ap (first_of_each_behind alike before) (filter_yes r rs e) ∙ repeated_out r (filter passes rs) before (covers r ∙ h)))
            by_fit h false e go out s = skipped r rs listed before (walk_from alike fits reason k budget listed kept rs) e go s

    -- what was listed and kept stays in front
    pub listed_in_front : (left listed : List Rank) (kept : List (List Pair)) → (more : List Rank) × ((walk_from alike fits reason k budget listed kept left).listed ≡ listed ++ more)
    listed_in_front [] listed kept = ([], sym (append-nil listed))
    listed_in_front (r ∷ rs) listed kept =
        turn (λ w. (more : List Rank) × (w.listed ≡ listed ++ more)) r rs listed kept
        (λ _. ([], sym (append-nil listed)))
        (λ _. listed_in_front rs listed kept)
        (λ _. listed_in_front rs listed kept)
        (λ _. ([], sym (append-nil listed)))
        (λ _ _ _ _.
        let rest = listed_in_front rs (listed ++ (r ∷ [])) kept in
        (r ∷ rest.0, rest.1 ∙ append_assoc listed (r ∷ []) rest.0))
        (λ _ _ _. listed_in_front rs listed (kept ++ (reason (candidate_of r) ∷ [])))

    pub kept_in_front : (left listed : List Rank) (kept : List (List Pair)) → (more : List (List Pair)) × ((walk_from alike fits reason k budget listed kept left).kept ≡ kept ++ more)
    kept_in_front [] listed kept = ([], sym (append-nil kept))
    kept_in_front (r ∷ rs) listed kept =
        turn (λ w. (more : List (List Pair)) × (w.kept ≡ kept ++ more)) r rs listed kept
        (λ _. ([], sym (append-nil kept)))
        (λ _. kept_in_front rs listed kept)
        (λ _. kept_in_front rs listed kept)
        (λ _. ([], sym (append-nil kept)))
        (λ _ _ _ _. kept_in_front rs (listed ++ (r ∷ [])) kept)
        (λ _ _ _.
        let rest = kept_in_front rs listed (kept ++ (reason (candidate_of r) ∷ [])) in
        (reason (candidate_of r) ∷ rest.0, rest.1 ∙ append_assoc kept (reason (candidate_of r) ∷ []) rest.0))

-- a settled walk lists the first k of each that fit
pub distinct_exact : (alike : Rank → Rank → Bool) → IsTransitive alike → (suits fits : Candidate → Bool) (reason : Candidate → List Pair) → IsSound suits fits reason → (k budget : ℕ) (entries : List Rank)
    → suit_all suits entries ≡ true → (distinct_walk alike fits reason k budget entries).outcome ≡ Settled
    → (distinct_walk alike fits reason k budget entries).listed ≡ take k (first_of_each alike (filter (λ (r : Rank). fits (candidate_of r)) entries))
distinct_exact alike joined suits fits reason sound k budget entries suit settled =
    let all : k - 0 ≡ k = omega arith in
    is_exact alike fits reason k budget suits sound joined entries [] [] [] suit (omega arith) (λ q. refl) (λ d s f. refl) settled
    ∙ ap (λ n. take n (first_of_each alike (filter (λ (r : Rank). fits (candidate_of r)) entries))) all

-- where none is alike another, each entry is the first
pub each_is_first : (before rs : List Rank) → first_of_each_behind none_alike before rs ≡ rs
each_is_first before [] = refl
each_is_first before (r ∷ rs) =
    ap (λ t. cond t (first_of_each_behind none_alike (before ++ (r ∷ [])) rs) (r ∷ first_of_each_behind none_alike (before ++ (r ∷ [])) rs)) (none_in before)
    ∙ ap (λ ys. r ∷ ys) (each_is_first (before ++ (r ∷ [])) rs)
  where
    none_in : (qs : List Rank) → list_any (none_alike r) qs ≡ false
    none_in [] = refl
    none_in (q ∷ qs) = none_in qs

pub plain_exact : (suits fits : Candidate → Bool) (reason : Candidate → List Pair) → IsSound suits fits reason → (k budget : ℕ) (entries : List Rank)
    → suit_all suits entries ≡ true → (walk fits reason k budget entries).outcome ≡ Settled → (walk fits reason k budget entries).listed ≡ take k (filter (λ (r : Rank). fits (candidate_of r)) entries)
plain_exact suits fits reason sound k budget entries suit settled =
    distinct_exact none_alike (λ r q p e h. e) suits fits reason sound k budget entries suit settled
    ∙ ap (λ ys. take k ys) (each_is_first [] (filter (λ (r : Rank). fits (candidate_of r)) entries))
