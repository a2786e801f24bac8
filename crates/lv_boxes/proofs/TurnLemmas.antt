-- Single turns of a walk: what a search that stands between two of them may do, and walks with two budgets side by side.
use Rattle.std.proofs.Common.{◌≡◌, ◌≢◌, ℕ, ◌+◌, ◌<◌, ◌≤◌, Bool, true, false, ◌||◌, List, [], ◌∷◌, ◌++◌, length, take, filter, ⊎_elim, refl, sym, ◌∙◌, ap, cond, nat_eq, arith}
use Rattle.std.specs.List.{list_any}
use Rattle.std.proofs.Math.Seq.{take-append_seam}
use Rattle.std.proofs.lemmas.List.{take_all, length-append}
use Rattle.std.proofs.lemmas.Bool.{eqb-true, eqb-false, ne_eqb, eq-eqb, or_left, or_right, or_cases}
use Rattle.std.proofs.lemmas.List.Folds.{list_any-append}
use Rattle.lv_base.specs.declared.rank.Rank.{Rank}
use Rattle.lv_base.specs.declared.search.Pair.{Pair}
use Rattle.lv_base.specs.declared.search.Candidate.{Candidate}
use Rattle.lv_base.specs.Choices.{contains_all}
use Rattle.lv_boxes.specs.declared.outcome.Outcome.TheVariants.{Settled, Unsettled}
use Rattle.lv_boxes.specs.Walk.{Walked, candidate_of, is_ruled_out, walk_from}
use Rattle.lv_boxes.proofs.WalkLemmas.{listed_in_front, kept_in_front, not_settled}

-- what a kept conflict rules out stays so
pub still_ruled_out : (kept : List (List Pair)) (conflict : List Pair) (choices : List ℕ) → is_ruled_out kept choices ≡ true → is_ruled_out (kept ++ (conflict ∷ [])) choices ≡ true
still_ruled_out kept conflict choices is =
    list_any-append (contains_all choices) kept (conflict ∷ []) ∙ or_left (is_ruled_out kept choices) (contains_all choices conflict || false) is

-- a conflict rules out what contains it
pub ruled_out_by_last : (kept : List (List Pair)) (conflict : List Pair) (choices : List ℕ) → contains_all choices conflict ≡ true → is_ruled_out (kept ++ (conflict ∷ [])) choices ≡ true
ruled_out_by_last kept conflict choices is =
    list_any-append (contains_all choices) kept (conflict ∷ [])
    ∙ or_right (is_ruled_out kept choices) (contains_all choices conflict || false) (or_left (contains_all choices conflict) false is)

module _ (alike : Rank → Rank → Bool) (fits : Candidate → Bool) (reason : Candidate → List Pair) (k : ℕ) where
  passes : Rank → Bool
  passes r = fits (candidate_of r)

  module _ (budget : ℕ) where
    -- with k listed it ends
    pub walk_full : (left listed : List Rank) (kept : List (List Pair)) → length listed ≡ k
        → walk_from alike fits reason k budget listed kept left ≡ record { outcome = Settled; listed = listed; kept = kept }
    walk_full [] listed kept full = refl
    walk_full (r ∷ rs) listed kept full =
        λ i. cond (eq-eqb (length listed) k full i) (record { outcome = Settled; listed = listed; kept = kept })
        (cond (is_ruled_out kept r.choices) (walk_from alike fits reason k budget listed kept rs)
        (cond (list_any (alike r) listed) (walk_from alike fits reason k budget listed kept rs)
        (cond (nat_eq (length listed + length kept) budget) (record { outcome = Unsettled; listed = listed; kept = kept })
        (cond (fits (candidate_of r)) (walk_from alike fits reason k budget (listed ++ (r ∷ [])) kept rs) (walk_from alike fits reason k budget listed (kept ++ (reason (candidate_of r) ∷ [])) rs)))))

    -- where fewer are listed, an entry that is ruled out is passed over
    pub walk_passed : (r : Rank) (rs listed : List Rank) (kept : List (List Pair)) → length listed ≢ k → is_ruled_out kept r.choices ≡ true
        → walk_from alike fits reason k budget listed kept (r ∷ rs) ≡ walk_from alike fits reason k budget listed kept rs
    walk_passed r rs listed kept fewer ruled =
        λ i. cond (ne_eqb (length listed) k fewer i) (record { outcome = Settled; listed = listed; kept = kept })
        (cond (ruled i) (walk_from alike fits reason k budget listed kept rs)
        (cond (list_any (alike r) listed) (walk_from alike fits reason k budget listed kept rs)
        (cond (nat_eq (length listed + length kept) budget) (record { outcome = Unsettled; listed = listed; kept = kept })
        (cond (fits (candidate_of r)) (walk_from alike fits reason k budget (listed ++ (r ∷ [])) kept rs) (walk_from alike fits reason k budget listed (kept ++ (reason (candidate_of r) ∷ [])) rs)))))

    -- and so is one that is alike a listed one
    pub walk_repeated : (r : Rank) (rs listed : List Rank) (kept : List (List Pair)) → length listed ≢ k → list_any (alike r) listed ≡ true
        → walk_from alike fits reason k budget listed kept (r ∷ rs) ≡ walk_from alike fits reason k budget listed kept rs
    walk_repeated r rs listed kept fewer repeated = by (is_ruled_out kept r.choices) refl
      where
        by : (b : Bool) → is_ruled_out kept r.choices ≡ b → walk_from alike fits reason k budget listed kept (r ∷ rs) ≡ walk_from alike fits reason k budget listed kept rs
        by true ruled = walk_passed r rs listed kept fewer ruled
        by false ruled =
            λ i. cond (ne_eqb (length listed) k fewer i) (record { outcome = Settled; listed = listed; kept = kept })
            (cond (ruled i) (walk_from alike fits reason k budget listed kept rs)
            (cond (repeated i) (walk_from alike fits reason k budget listed kept rs)
            (cond (nat_eq (length listed + length kept) budget) (record { outcome = Unsettled; listed = listed; kept = kept })
            (cond (fits (candidate_of r)) (walk_from alike fits reason k budget (listed ++ (r ∷ [])) kept rs) (walk_from alike fits reason k budget listed (kept ++ (reason (candidate_of r) ∷ [])) rs)))))

    -- another is a trial, if one is left
    pub walk_used_up : (r : Rank) (rs listed : List Rank) (kept : List (List Pair)) → length listed ≢ k → is_ruled_out kept r.choices ≡ false → list_any (alike r) listed ≡ false → length listed + length kept ≡ budget
        → walk_from alike fits reason k budget listed kept (r ∷ rs) ≡ record { outcome = Unsettled; listed = listed; kept = kept }
    walk_used_up r rs listed kept fewer ruled fresh used =
        λ i. cond (ne_eqb (length listed) k fewer i) (record { outcome = Settled; listed = listed; kept = kept })
        (cond (ruled i) (walk_from alike fits reason k budget listed kept rs)
        (cond (fresh i) (walk_from alike fits reason k budget listed kept rs)
        (cond (eq-eqb (length listed + length kept) budget used i) (record { outcome = Unsettled; listed = listed; kept = kept })
        (cond (fits (candidate_of r)) (walk_from alike fits reason k budget (listed ++ (r ∷ [])) kept rs) (walk_from alike fits reason k budget listed (kept ++ (reason (candidate_of r) ∷ [])) rs)))))

    walk_tried : (b : Bool) (r : Rank) (rs listed : List Rank) (kept : List (List Pair)) → length listed ≢ k → is_ruled_out kept r.choices ≡ false → list_any (alike r) listed ≡ false → length listed + length kept ≢ budget
        → fits (candidate_of r) ≡ b
        → walk_from alike fits reason k budget listed kept (r ∷ rs)
        ≡ cond b (walk_from alike fits reason k budget (listed ++ (r ∷ [])) kept rs) (walk_from alike fits reason k budget listed (kept ++ (reason (candidate_of r) ∷ [])) rs)
    walk_tried b r rs listed kept fewer ruled fresh left fit =
        λ i. cond (ne_eqb (length listed) k fewer i) (record { outcome = Settled; listed = listed; kept = kept })
        (cond (ruled i) (walk_from alike fits reason k budget listed kept rs)
        (cond (fresh i) (walk_from alike fits reason k budget listed kept rs)
        (cond (ne_eqb (length listed + length kept) budget left i) (record { outcome = Unsettled; listed = listed; kept = kept })
        (cond (fit i) (walk_from alike fits reason k budget (listed ++ (r ∷ [])) kept rs) (walk_from alike fits reason k budget listed (kept ++ (reason (candidate_of r) ∷ [])) rs)))))

    -- one that fits is listed
    pub walk_listed : (r : Rank) (rs listed : List Rank) (kept : List (List Pair)) → length listed ≢ k → is_ruled_out kept r.choices ≡ false → list_any (alike r) listed ≡ false → length listed + length kept ≢ budget
        → fits (candidate_of r) ≡ true
        → walk_from alike fits reason k budget listed kept (r ∷ rs) ≡ walk_from alike fits reason k budget (listed ++ (r ∷ [])) kept rs
    walk_listed = walk_tried true

    -- of one that doesn't the reason is kept, which rules out the entry itself
    pub walk_refused : (r : Rank) (rs listed : List Rank) (kept : List (List Pair)) → length listed ≢ k → is_ruled_out kept r.choices ≡ false → list_any (alike r) listed ≡ false → length listed + length kept ≢ budget
        → fits (candidate_of r) ≡ false → contains_all r.choices (reason (candidate_of r)) ≡ true
        → walk_from alike fits reason k budget listed kept (r ∷ rs) ≡ walk_from alike fits reason k budget listed (kept ++ (reason (candidate_of r) ∷ [])) (r ∷ rs)
    walk_refused r rs listed kept fewer ruled fresh left fit inside =
        walk_tried false r rs listed kept fewer ruled fresh left fit
        ∙ sym (walk_passed r rs listed (kept ++ (reason (candidate_of r) ∷ [])) fewer (ruled_out_by_last kept (reason (candidate_of r)) r.choices inside))

    -- an entry that is passed over: a kept conflict rules it out, or it is alike a listed one
    abbrev pub is_passed : List Rank → List (List Pair) → Rank → Bool
    is_passed listed kept r = is_ruled_out kept r.choices || list_any (alike r) listed

    walk_over : (r : Rank) (rs listed : List Rank) (kept : List (List Pair)) → length listed ≢ k → is_passed listed kept r ≡ true
        → walk_from alike fits reason k budget listed kept (r ∷ rs) ≡ walk_from alike fits reason k budget listed kept rs
    walk_over r rs listed kept fewer passed =
        ⊎_elim (walk_passed r rs listed kept fewer) (walk_repeated r rs listed kept fewer) (or_cases (is_ruled_out kept r.choices) (list_any (alike r) listed) passed)

    -- it stays so where more is listed or kept
    passed_listed : (q r : Rank) (listed : List Rank) (kept : List (List Pair)) → is_passed listed kept q ≡ true → is_passed (listed ++ (r ∷ [])) kept q ≡ true
    passed_listed q r listed kept passed =
        ⊎_elim (or_left (is_ruled_out kept q.choices) (list_any (alike q) (listed ++ (r ∷ []))))
        (λ h.
        or_right (is_ruled_out kept q.choices) (list_any (alike q) (listed ++ (r ∷ [])))
        (list_any-append (alike q) listed (r ∷ []) ∙ or_left (list_any (alike q) listed) (alike q r || false) h))
        (or_cases (is_ruled_out kept q.choices) (list_any (alike q) listed) passed)

    passed_kept : (q : Rank) (conflict : List Pair) (listed : List Rank) (kept : List (List Pair)) → is_passed listed kept q ≡ true → is_passed listed (kept ++ (conflict ∷ [])) q ≡ true
    passed_kept q conflict listed kept passed =
        ⊎_elim (λ h. or_left (is_ruled_out (kept ++ (conflict ∷ [])) q.choices) (list_any (alike q) listed) (still_ruled_out kept conflict q.choices h))
        (or_right (is_ruled_out (kept ++ (conflict ∷ [])) q.choices) (list_any (alike q) listed))
        (or_cases (is_ruled_out kept q.choices) (list_any (alike q) listed) passed)

    -- entries that are passed over may be dropped
    pub walk_thinned : (keeps : Rank → Bool) (left listed : List Rank) (kept : List (List Pair)) → ((r : Rank) → keeps r ≡ false → is_passed listed kept r ≡ true)
        → walk_from alike fits reason k budget listed kept (filter keeps left) ≡ walk_from alike fits reason k budget listed kept left
    walk_thinned keeps [] listed kept drops = refl
    walk_thinned keeps (r ∷ rs) listed kept drops =
        by (keeps r) refl
        (walk_thinned keeps rs listed kept drops)
        (walk_thinned keeps rs (listed ++ (r ∷ [])) kept (λ q e. passed_listed q r listed kept (drops q e)))
        (walk_thinned keeps rs listed (kept ++ (reason (candidate_of r) ∷ [])) (λ q e. passed_kept q (reason (candidate_of r)) listed kept (drops q e)))
      where
        full_or_not : (a : Bool) → nat_eq (length listed) k ≡ a → is_passed listed kept r ≡ true
            → walk_from alike fits reason k budget listed kept rs ≡ walk_from alike fits reason k budget listed kept (r ∷ rs)
        full_or_not true e passed = let full : length listed ≡ k = eqb-true (length listed) k e in walk_full rs listed kept full ∙ sym (walk_full (r ∷ rs) listed kept full)
        full_or_not false e passed = sym (walk_over r rs listed kept (eqb-false (length listed) k e) passed)

        by : (b : Bool) → keeps r ≡ b
            → walk_from alike fits reason k budget listed kept (filter keeps rs) ≡ walk_from alike fits reason k budget listed kept rs
            → walk_from alike fits reason k budget (listed ++ (r ∷ [])) kept (filter keeps rs) ≡ walk_from alike fits reason k budget (listed ++ (r ∷ [])) kept rs
            → walk_from alike fits reason k budget listed (kept ++ (reason (candidate_of r) ∷ [])) (filter keeps rs) ≡ walk_from alike fits reason k budget listed (kept ++ (reason (candidate_of r) ∷ [])) rs
            → walk_from alike fits reason k budget listed kept (cond b (r ∷ filter keeps rs) (filter keeps rs)) ≡ walk_from alike fits reason k budget listed kept (r ∷ rs)
        by true e passed fitting refused =
            λ i. cond (nat_eq (length listed) k) (record { outcome = Settled; listed = listed; kept = kept })
            (cond (is_ruled_out kept r.choices) (passed i)
            (cond (list_any (alike r) listed) (passed i)
            (cond (nat_eq (length listed + length kept) budget) (record { outcome = Unsettled; listed = listed; kept = kept })
            (cond (fits (candidate_of r)) (fitting i) (refused i)))))
        by false e passed fitting refused = passed ∙ full_or_not (nat_eq (length listed) k) refl (drops r e)

  module _ (budget larger : ℕ) (less : budget ≤ larger) where
    -- what holds of two walks however their next turns go holds of them
    both_turn : (P : Walked → Walked → Type 0) (r : Rank) (rs listed : List Rank) (kept : List (List Pair)) → length listed + length kept ≤ budget
        → P (record { outcome = Settled; listed = listed; kept = kept }) (record { outcome = Settled; listed = listed; kept = kept })
        → P (walk_from alike fits reason k budget listed kept rs) (walk_from alike fits reason k larger listed kept rs)
        → P (record { outcome = Unsettled; listed = listed; kept = kept }) (walk_from alike fits reason k larger listed kept (r ∷ rs))
        → (length listed + length kept < budget → P (walk_from alike fits reason k budget (listed ++ (r ∷ [])) kept rs) (walk_from alike fits reason k larger (listed ++ (r ∷ [])) kept rs))
        → (length listed + length kept < budget
        → P (walk_from alike fits reason k budget listed (kept ++ (reason (candidate_of r) ∷ [])) rs) (walk_from alike fits reason k larger listed (kept ++ (reason (candidate_of r) ∷ [])) rs))
        → P (walk_from alike fits reason k budget listed kept (r ∷ rs)) (walk_from alike fits reason k larger listed kept (r ∷ rs))
    both_turn P r rs listed kept few enough passed used_up fitting refused =
        by (nat_eq (length listed) k) refl (is_ruled_out kept r.choices) refl (list_any (alike r) listed) refl (nat_eq (length listed + length kept) budget) refl (fits (candidate_of r)) refl
      where
        by : (a : Bool) → nat_eq (length listed) k ≡ a → (b : Bool) → is_ruled_out kept r.choices ≡ b → (l : Bool) → list_any (alike r) listed ≡ l
            → (d : Bool) → nat_eq (length listed + length kept) budget ≡ d → (e : Bool) → fits (candidate_of r) ≡ e
            → P (walk_from alike fits reason k budget listed kept (r ∷ rs)) (walk_from alike fits reason k larger listed kept (r ∷ rs))
        by true p b q l h d u e v =
            let full : length listed ≡ k = eqb-true (length listed) k p in
            rw (walk_full budget (r ∷ rs) listed kept full, walk_full larger (r ∷ rs) listed kept full) enough
        by false p true q l h d u e v =
            let fewer : length listed ≢ k = eqb-false (length listed) k p in
            rw (walk_passed budget r rs listed kept fewer q, walk_passed larger r rs listed kept fewer q) passed
        by false p false q true h d u e v =
            let fewer : length listed ≢ k = eqb-false (length listed) k p in
            rw (walk_repeated budget r rs listed kept fewer h, walk_repeated larger r rs listed kept fewer h) passed
        by false p false q false h true u e v =
            rw (walk_used_up budget r rs listed kept (eqb-false (length listed) k p) q h (eqb-true (length listed + length kept) budget u)) used_up
        by false p false q false h false u true v =
            let fewer : length listed ≢ k = eqb-false (length listed) k p in
            let left : length listed + length kept ≢ budget = eqb-false (length listed + length kept) budget u in
            let left_too : length listed + length kept ≢ larger = λ e. left (omega (arith, e, less, few)) in
            rw (walk_listed budget r rs listed kept fewer q h left v, walk_listed larger r rs listed kept fewer q h left_too v) (fitting (omega (arith, left, few)))
        by false p false q false h false u false v =
            let fewer : length listed ≢ k = eqb-false (length listed) k p in
            let left : length listed + length kept ≢ budget = eqb-false (length listed + length kept) budget u in
            let left_too : length listed + length kept ≢ larger = λ e. left (omega (arith, e, less, few)) in
            rw (walk_tried budget false r rs listed kept fewer q h left v, walk_tried larger false r rs listed kept fewer q h left_too v) (refused (omega (arith, left, few)))

    pub settled_stays : (left listed : List Rank) (kept : List (List Pair)) → length listed + length kept ≤ budget
        → (walk_from alike fits reason k budget listed kept left).outcome ≡ Settled → walk_from alike fits reason k larger listed kept left ≡ walk_from alike fits reason k budget listed kept left
    settled_stays [] listed kept few = λ _. refl
    settled_stays (r ∷ rs) listed kept few =
        both_turn (λ w v. w.outcome ≡ Settled → v ≡ w) r rs listed kept few
        (λ _. refl)
        (settled_stays rs listed kept few)
        (λ e. absurd (not_settled e))
        (λ l. settled_stays rs (listed ++ (r ∷ [])) kept (rw length-append (omega (arith, l))))
        (λ l. settled_stays rs listed (kept ++ (reason (candidate_of r) ∷ [])) (rw length-append (omega (arith, l))))

    pub listed_stays : (left listed : List Rank) (kept : List (List Pair)) → length listed + length kept ≤ budget
        → take (length (walk_from alike fits reason k budget listed kept left).listed) (walk_from alike fits reason k larger listed kept left).listed ≡ (walk_from alike fits reason k budget listed kept left).listed
    listed_stays [] listed kept few = take_all (length listed) listed (omega arith)
    listed_stays (r ∷ rs) listed kept few =
        both_turn (λ w v. take (length w.listed) v.listed ≡ w.listed) r rs listed kept few
        (take_all (length listed) listed (omega arith))
        (listed_stays rs listed kept few)
        (let front = listed_in_front alike fits reason k larger (r ∷ rs) listed kept in ap (λ xs. take (length listed) xs) front.1 ∙ take-append_seam listed front.0)
        (λ l. listed_stays rs (listed ++ (r ∷ [])) kept (rw length-append (omega (arith, l))))
        (λ l. listed_stays rs listed (kept ++ (reason (candidate_of r) ∷ [])) (rw length-append (omega (arith, l))))

    pub kept_stays : (left listed : List Rank) (kept : List (List Pair)) → length listed + length kept ≤ budget
        → take (length (walk_from alike fits reason k budget listed kept left).kept) (walk_from alike fits reason k larger listed kept left).kept ≡ (walk_from alike fits reason k budget listed kept left).kept
    kept_stays [] listed kept few = take_all (length kept) kept (omega arith)
    kept_stays (r ∷ rs) listed kept few =
        both_turn (λ w v. take (length w.kept) v.kept ≡ w.kept) r rs listed kept few
        (take_all (length kept) kept (omega arith))
        (kept_stays rs listed kept few)
        (let front = kept_in_front alike fits reason k larger (r ∷ rs) listed kept in ap (λ xs. take (length kept) xs) front.1 ∙ take-append_seam kept front.0)
        (λ l. kept_stays rs (listed ++ (r ∷ [])) kept (rw length-append (omega (arith, l))))
        (λ l. kept_stays rs listed (kept ++ (reason (candidate_of r) ∷ [])) (rw length-append (omega (arith, l))))
