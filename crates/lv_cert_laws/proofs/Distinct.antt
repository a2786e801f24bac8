-- Of entries in order, those that are alike none before them; and which of them are the first.
use Rattle.std.proofs.Common.{◌≡◌, ℕ, Bool, true, false, ◌&&◌, ◌||◌, List, [], ◌∷◌, ◌++◌, cond, inl, inr, ⊎_elim, refl, sym, ◌∙◌, ap, ap₂}
use Rattle.std.specs.List.{list_all, list_any}
use Rattle.std.proofs.lemmas.Bool.{and_parts, and_from}
use Rattle.std.proofs.lemmas.List.Folds.{list_any-append}
use Rattle.lv_cert_meaning.specs.lv_base.declared.rank.Rank.{Rank}
use Rattle.lv_cert_meaning.specs.lv_base.Rank.{ranks_before}
use Rattle.lv_cert_meaning.specs.lv_boxes.Ranked.{rises}
use Rattle.lv_cert_meaning.specs.lv_boxes.Walk.{first_of_each_behind, first_of_each}
use Rattle.lv_cert_meaning.proofs.lv_boxes.RankedLemmas.{not_before_itself, not_both_before}
use Rattle.lv_cert_meaning.proofs.lv_meaning.Among.{Among, all_among}

-- neither is true
neither : (b c : Bool) → (b || c) ≡ false → (b ≡ false) × (c ≡ false)
neither true c h = absurd (cc h)
neither false true h = absurd (cc h)
neither false false h = (refl, refl)

module _ (alike : Rank → Rank → Bool) where
  -- with one more that came before
  one_more : (r x : Rank) (before : List Rank) → list_any (alike r) before ≡ false → alike r x ≡ false → list_any (alike r) (before ++ x ∷ []) ≡ false
  one_more r x before none other = list_any-append (alike r) before (x ∷ []) ∙ ap₂ (λ (b c : Bool). b || (c || false)) none other

  without : (r x : Rank) (before : List Rank) → list_any (alike r) (before ++ x ∷ []) ≡ false → (list_any (alike r) before ≡ false) × (alike r x ≡ false)
  without r x before none =
      let two = neither (list_any (alike r) before) (alike r x || false) (sym (list_any-append (alike r) before (x ∷ [])) ∙ none) in
      (two.0, (neither (alike r x) false two.1).0)

  behind_among : (before rs : List Rank) (r : Rank) → Among r (first_of_each_behind alike before rs) → Among r rs
  behind_among before [] r a = absurd a
  behind_among before (x ∷ xs) r a = by (list_any (alike x) before) (behind_among (before ++ x ∷ []) xs r) a
    where
      by : (b : Bool) → (Among r (first_of_each_behind alike (before ++ x ∷ []) xs) → Among r xs)
          → Among r (cond b (first_of_each_behind alike (before ++ x ∷ []) xs) (x ∷ first_of_each_behind alike (before ++ x ∷ []) xs)) → Among r (x ∷ xs)
      by true rest a = inr (rest a)
      by false rest (inl e) = inl e
      by false rest (inr a) = inr (rest a)

  behind_all : (f : Rank → Bool) (before rs : List Rank) → list_all f rs ≡ true → list_all f (first_of_each_behind alike before rs) ≡ true
  behind_all f before [] h = refl
  behind_all f before (x ∷ xs) h = by (list_any (alike x) before) (behind_all f (before ++ x ∷ []) xs (and_parts (f x) (list_all f xs) h).1)
    where
      by : (b : Bool) → list_all f (first_of_each_behind alike (before ++ x ∷ []) xs) ≡ true
          → list_all f (cond b (first_of_each_behind alike (before ++ x ∷ []) xs) (x ∷ first_of_each_behind alike (before ++ x ∷ []) xs)) ≡ true
      by true rest = rest
      by false rest = and_from (f x) (list_all f (first_of_each_behind alike (before ++ x ∷ []) xs)) (and_parts (f x) (list_all f xs) h).0 rest

  behind_rises : (before rs : List Rank) → rises rs ≡ true → rises (first_of_each_behind alike before rs) ≡ true
  behind_rises before [] h = refl
  behind_rises before (x ∷ xs) h = by (list_any (alike x) before) (behind_rises (before ++ x ∷ []) xs (and_parts (list_all (ranks_before x) xs) (rises xs) h).1)
    where
      by : (b : Bool) → rises (first_of_each_behind alike (before ++ x ∷ []) xs) ≡ true
          → rises (cond b (first_of_each_behind alike (before ++ x ∷ []) xs) (x ∷ first_of_each_behind alike (before ++ x ∷ []) xs)) ≡ true
      by true rest = rest
      by false rest =
          and_from (list_all (ranks_before x) (first_of_each_behind alike (before ++ x ∷ []) xs)) (rises (first_of_each_behind alike (before ++ x ∷ []) xs))
          (behind_all (ranks_before x) (before ++ x ∷ []) xs (and_parts (list_all (ranks_before x) xs) (rises xs) h).0) rest

  -- one that is alike none before it stays
  behind_keeps : (before rs : List Rank) (r : Rank) → rises rs ≡ true → Among r rs → list_any (alike r) before ≡ false
      → ((q : Rank) → Among q rs → ranks_before q r ≡ true → alike r q ≡ false) → Among r (first_of_each_behind alike before rs)
  behind_keeps before [] r rise a none apart = absurd a
  behind_keeps before (x ∷ xs) r rise (inl e) none apart = here (list_any (alike x) before) (sym (ap (λ (y : Rank). list_any (alike y) before) e) ∙ none)
    where
      here : (b : Bool) → b ≡ false → Among r (cond b (first_of_each_behind alike (before ++ x ∷ []) xs) (x ∷ first_of_each_behind alike (before ++ x ∷ []) xs))
      here true f = absurd (cc f)
      here false f = inl e
  behind_keeps before (x ∷ xs) r rise (inr a) none apart =
      let two = and_parts (list_all (ranks_before x) xs) (rises xs) rise in
      later (list_any (alike x) before)
      (behind_keeps (before ++ x ∷ []) xs r two.1 a (one_more r x before none (apart x (inl refl) (all_among (ranks_before x) xs r two.0 a))) (λ q there. apart q (inr there)))
    where
      later : (b : Bool) → Among r (first_of_each_behind alike (before ++ x ∷ []) xs)
          → Among r (cond b (first_of_each_behind alike (before ++ x ∷ []) xs) (x ∷ first_of_each_behind alike (before ++ x ∷ []) xs))
      later true rest = rest
      later false rest = inr rest

  -- one that stayed is alike none of what came before
  pub record IsNew (before rs : List Rank) (r : Rank) : Type 0 where
    pub none : list_any (alike r) before ≡ false
    pub apart : (q : Rank) → Among q rs → ranks_before q r ≡ true → alike r q ≡ false

  behind_new : (before rs : List Rank) (r : Rank) → rises rs ≡ true → Among r (first_of_each_behind alike before rs) → IsNew before rs r
  behind_new before [] r rise a = absurd a
  behind_new before (x ∷ xs) r rise a = by (list_any (alike x) before) refl (behind_new (before ++ x ∷ []) xs r two.1) a
    where
      two : (list_all (ranks_before x) xs ≡ true) × (rises xs ≡ true)
      two = and_parts (list_all (ranks_before x) xs) (rises xs) rise

      rest : IsNew (before ++ x ∷ []) xs r → IsNew before (x ∷ xs) r
      rest new =
          let parts = without r x before new.none in
          record { none = parts.0; apart = λ q there front. ⊎_elim (λ e. ap (alike r) e ∙ parts.1) (λ b. new.apart q b front) there }

      first : r ≡ x → list_any (alike x) before ≡ false → IsNew before (x ∷ xs) r
      first e none =
          record {
            none = ap (λ (y : Rank). list_any (alike y) before) e ∙ none;
            apart = λ q there front.
                ⊎_elim (λ f. absurd (not_both_before q r front (ap (λ (y : Rank). ranks_before r y) (f ∙ sym e) ∙ ap (λ (y : Rank). ranks_before y r) (e ∙ sym f) ∙ front)))
                (λ b. absurd (not_both_before q r front (ap (λ (y : Rank). ranks_before y q) e ∙ all_among (ranks_before x) xs q two.0 b))) there;
          }

      by : (b : Bool) → list_any (alike x) before ≡ b → (Among r (first_of_each_behind alike (before ++ x ∷ []) xs) → IsNew (before ++ x ∷ []) xs r)
          → Among r (cond b (first_of_each_behind alike (before ++ x ∷ []) xs) (x ∷ first_of_each_behind alike (before ++ x ∷ []) xs)) → IsNew before (x ∷ xs) r
      by true e later a = rest (later a)
      by false e later (inl same) = first same e
      by false e later (inr a) = rest (later a)

  pub each_among : (rs : List Rank) (r : Rank) → Among r (first_of_each alike rs) → Among r rs
  each_among rs r a = behind_among [] rs r a

  pub each_rises : (rs : List Rank) → rises rs ≡ true → rises (first_of_each alike rs) ≡ true
  each_rises rs h = behind_rises [] rs h

  pub each_keeps : (rs : List Rank) (r : Rank) → rises rs ≡ true → Among r rs → ((q : Rank) → Among q rs → ranks_before q r ≡ true → alike r q ≡ false) → Among r (first_of_each alike rs)
  each_keeps rs r rise a apart = behind_keeps [] rs r rise a refl apart

  pub each_apart : (rs : List Rank) (r : Rank) → rises rs ≡ true → Among r (first_of_each alike rs) → (q : Rank) → Among q rs → ranks_before q r ≡ true → alike r q ≡ false
  each_apart rs r rise a q there front = (behind_new [] rs r rise a).apart q there front
