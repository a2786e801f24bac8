-- Leaving pairs out, over plain lists: one step of it, and what is left at the end.
use Rattle.std.proofs.Common.{◌≡◌, ℕ, ◌+◌, ◌<◌, ◌≤◌, Bool, true, false, List, [], ◌∷◌, ◌++◌, length, drop, get_or, refl, sym, ◌∙◌, ap, add-one, drop-cons, cond, ◌&&◌, nat_lt, append_assoc, append-nil, arith}
use Rattle.std.specs.List.{list_all}
use Rattle.std.proofs.lemmas.Bool.{and_from, and_parts, lt-ltb, ltb-true}
use Rattle.std.proofs.lemmas.List.Folds.{list_all-append}
use Rattle.lv_base.specs.Choices.{slots_rise, slots_rise_from}
use Rattle.lv_boxes.specs.WalkLaws.{IsMonotone, each_is_needed}
use Rattle.lv_base.specs.declared.search.Pair.{Pair}
use Rattle.lv_boxes.specs.Reason.{reduced}

module _ (possible : List Pair → Bool) (pairs kept : List Pair) (at : ℕ) (d : Pair) (whole : List Pair) (within : at < length pairs) where
  pub next : drop at pairs ≡ get_or pairs at d ∷ drop (at + 1) pairs
  next = drop-cons pairs at d within ∙ ap (λ k. get_or pairs at d ∷ drop k pairs) (sym (add-one at))

  step : (b : Bool) → possible (kept ++ drop (at + 1) pairs) ≡ b
      → reduced possible kept (drop at pairs) ≡ cond b (reduced possible (kept ++ (get_or pairs at d ∷ [])) (drop (at + 1) pairs)) (reduced possible kept (drop (at + 1) pairs))
  step b e = ap (reduced possible kept) next ∙ ap (λ t. cond t (reduced possible (kept ++ (get_or pairs at d ∷ [])) (drop (at + 1) pairs)) (reduced possible kept (drop (at + 1) pairs))) e

  -- a pair without which the others are possible is kept
  pub pair_kept : possible (kept ++ drop (at + 1) pairs) ≡ true → reduced possible kept (drop at pairs) ≡ whole → reduced possible (kept ++ (get_or pairs at d ∷ [])) (drop (at + 1) pairs) ≡ whole
  pair_kept e is = sym (step true e) ∙ is

  -- another is left out
  pub pair_left_out : possible (kept ++ drop (at + 1) pairs) ≡ false → reduced possible kept (drop at pairs) ≡ whole → reduced possible kept (drop (at + 1) pairs) ≡ whole
  pair_left_out e is = sym (step false e) ∙ is

-- slots that rise from one number rise from a lower one
rising_lower : (low high : ℕ) (ps : List Pair) → low ≤ high → slots_rise_from high ps ≡ true → slots_rise_from low ps ≡ true
rising_lower low high [] below is = refl
rising_lower low high (p ∷ ps) below is =
    let parts = and_parts (nat_lt high (p.slot + 1)) (slots_rise_from (p.slot + 1) ps) is in
    let above : high < p.slot + 1 = ltb-true high (p.slot + 1) parts.0 in
    and_from (nat_lt low (p.slot + 1)) (slots_rise_from (p.slot + 1) ps) (lt-ltb low (p.slot + 1) (omega (arith, above, below))) parts.1

-- slots that rise do so without a pair
pub rising_without : (low : ℕ) (before : List Pair) (p : Pair) (ps : List Pair) → slots_rise_from low (before ++ (p ∷ ps)) ≡ true → slots_rise_from low (before ++ ps) ≡ true
rising_without low [] p ps is =
    let parts = and_parts (nat_lt low (p.slot + 1)) (slots_rise_from (p.slot + 1) ps) is in
    let above : low < p.slot + 1 = ltb-true low (p.slot + 1) parts.0 in
    rising_lower low (p.slot + 1) ps (omega (arith, above)) parts.1
rising_without low (q ∷ before) p ps is =
    let parts = and_parts (nat_lt low (q.slot + 1)) (slots_rise_from (q.slot + 1) (before ++ (p ∷ ps))) is in
    and_from (nat_lt low (q.slot + 1)) (slots_rise_from (q.slot + 1) (before ++ ps)) parts.0 (rising_without (q.slot + 1) before p ps parts.1)

module _ (possible : List Pair → Bool) where
  -- what isn't possible stays so
  pub still_impossible : (before ps : List Pair) → possible (before ++ ps) ≡ false → possible (reduced possible before ps) ≡ false
  still_impossible before [] is = sym (ap possible (append-nil before)) ∙ is
  still_impossible before (p ∷ ps) is =
      by (possible (before ++ ps)) refl (still_impossible (before ++ (p ∷ [])) ps (ap possible (append_assoc before (p ∷ []) ps) ∙ is)) (still_impossible before ps)
    where
      by : (b : Bool) → possible (before ++ ps) ≡ b → possible (reduced possible (before ++ (p ∷ [])) ps) ≡ false → (possible (before ++ ps) ≡ false → possible (reduced possible before ps) ≡ false)
          → possible (cond b (reduced possible (before ++ (p ∷ [])) ps) (reduced possible before ps)) ≡ false
      by true e kept left_out = kept
      by false e kept left_out = left_out e

  -- what all pairs pass, all that is left passes
  pub part_of_all : (f : Pair → Bool) (before ps : List Pair) → list_all f before ≡ true → list_all f ps ≡ true → list_all f (reduced possible before ps) ≡ true
  part_of_all f before [] front rest = front
  part_of_all f before (p ∷ ps) front rest =
      by (possible (before ++ ps))
      (part_of_all f (before ++ (p ∷ [])) ps (list_all-append f before (p ∷ []) ∙ and_from (list_all f before) (list_all f (p ∷ [])) front (and_from (f p) true (and_parts (f p) (list_all f ps) rest).0 refl)) (and_parts (f p) (list_all f ps) rest).1)
      (part_of_all f before ps front (and_parts (f p) (list_all f ps) rest).1)
    where
      by : (b : Bool) → list_all f (reduced possible (before ++ (p ∷ [])) ps) ≡ true → list_all f (reduced possible before ps) ≡ true
          → list_all f (cond b (reduced possible (before ++ (p ∷ [])) ps) (reduced possible before ps)) ≡ true
      by true kept left_out = kept
      by false kept left_out = left_out

  -- where slots rise, they do without a pair
  pub still_rising : (before ps : List Pair) → slots_rise (before ++ ps) ≡ true → slots_rise (reduced possible before ps) ≡ true
  still_rising before [] is = sym (ap slots_rise (append-nil before)) ∙ is
  still_rising before (p ∷ ps) is =
      by (possible (before ++ ps))
      (still_rising (before ++ (p ∷ [])) ps (ap slots_rise (append_assoc before (p ∷ []) ps) ∙ is))
      (still_rising before ps (rising_without 0 before p ps is))
    where
      by : (b : Bool) → slots_rise (reduced possible (before ++ (p ∷ [])) ps) ≡ true → slots_rise (reduced possible before ps) ≡ true
          → slots_rise (cond b (reduced possible (before ++ (p ∷ [])) ps) (reduced possible before ps)) ≡ true
      by true kept left_out = kept
      by false kept left_out = left_out

  -- each pair behind the front is needed beside the others and the rest
  abbrev pub needed_beside : List Pair → List Pair → List Pair → Bool
  needed_beside front [] rest = true
  needed_beside front (p ∷ back) rest = possible (front ++ (back ++ rest)) && needed_beside (front ++ (p ∷ [])) back rest

  more : (front back rest : List Pair) (p : Pair) → needed_beside front back (p ∷ rest) ≡ true → possible (front ++ (back ++ rest)) ≡ true → needed_beside front (back ++ (p ∷ [])) rest ≡ true
  more front [] rest p all here = and_from (possible (front ++ rest)) true here refl
  more front (q ∷ back) rest p all here =
      let both = and_parts (possible (front ++ (back ++ (p ∷ rest)))) (needed_beside (front ++ (q ∷ [])) back (p ∷ rest)) all in
      and_from (possible (front ++ ((back ++ (p ∷ [])) ++ rest))) (needed_beside (front ++ (q ∷ [])) (back ++ (p ∷ [])) rest)
      (ap (λ ys. possible (front ++ ys)) (append_assoc back (p ∷ []) rest) ∙ both.0)
      (more (front ++ (q ∷ [])) back rest p both.1 (ap possible (append_assoc front (q ∷ []) (back ++ rest)) ∙ here))

  fewer : IsMonotone possible → (front back rest : List Pair) (p : Pair) → needed_beside front back (p ∷ rest) ≡ true → needed_beside front back rest ≡ true
  fewer monotone front [] rest p all = refl
  fewer monotone front (q ∷ back) rest p all =
      let both = and_parts (possible (front ++ (back ++ (p ∷ rest)))) (needed_beside (front ++ (q ∷ [])) back (p ∷ rest)) all in
      and_from (possible (front ++ (back ++ rest))) (needed_beside (front ++ (q ∷ [])) back rest)
      (sym (ap possible (append_assoc front back rest)) ∙ monotone.without (front ++ back) p rest (ap possible (append_assoc front back (p ∷ rest)) ∙ both.0))
      (fewer monotone (front ++ (q ∷ [])) back rest p both.1)

  alone : (front back : List Pair) → needed_beside front back [] ≡ each_is_needed possible front back
  alone front [] = refl
  alone front (p ∷ back) = λ i. possible (front ++ append-nil back i) && alone (front ++ (p ∷ [])) back i

  -- where those before are needed, all that is left is
  pub all_needed : IsMonotone possible → (before ps : List Pair) → needed_beside [] before ps ≡ true → each_is_needed possible [] (reduced possible before ps) ≡ true
  all_needed monotone before [] all = sym (alone [] before) ∙ all
  all_needed monotone before (p ∷ ps) all =
      by (possible (before ++ ps)) refl (λ e. all_needed monotone (before ++ (p ∷ [])) ps (more [] before ps p all e)) (all_needed monotone before ps (fewer monotone [] before ps p all))
    where
      by : (b : Bool) → possible (before ++ ps) ≡ b → (possible (before ++ ps) ≡ true → each_is_needed possible [] (reduced possible (before ++ (p ∷ [])) ps) ≡ true) → each_is_needed possible [] (reduced possible before ps) ≡ true
          → each_is_needed possible [] (cond b (reduced possible (before ++ (p ∷ [])) ps) (reduced possible before ps)) ≡ true
      by true e kept left_out = kept e
      by false e kept left_out = left_out
