-- One pair of a deletion after the other.
use Rattle.std.proofs.Common.{◌≡◌, ℕ, ◌+◌, ◌<◌, ◌≤◌, Bool, true, false, List, [], ◌∷◌, ◌++◌, length, take, drop, get_or, filter, cond, Option, Some, None, IfSome, is_none, refl, sym, subst, ap, ◌∙◌, All, append_assoc, append-nil}
use Rattle.std.proofs.lemmas.List.{drop_all, drop_more}
use Rattle.std.proofs.lemmas.List.Elements.{All-nil, All-cons, All-take, filter-append}
use Rattle.lv_base.specs.declared.search.Pair.{Pair}
use Rattle.lv_clauses.specs.Marks.{Marks}
use Rattle.lv_boxes.specs.WalkLaws.{IsMonotone}
use Rattle.lv_boxes.specs.Reason.{reduced}
use Rattle.lv_boxes.proofs.ReasonLemmas.{pair_kept, pair_left_out}
use Rattle.lv_asking.specs.Reducing.{RefutesPairs, is_needed, IsReducing}

-- what has a false consequence is false
false_by : (b c : Bool) → c ≡ false → (b ≡ true → c ≡ true) → b ≡ false
false_by true c never follows = sym (follows refl) ∙ never
false_by false c never follows = refl

-- what holds of pairs, and still with a pair less, holds of parts of them
module _ (Holds : List Pair → Type 0) (less : (front : List Pair) (p : Pair) (back : List Pair) → Holds (front ++ (p ∷ back)) → Holds (front ++ back)) where
  of_front : (front back : List Pair) → Holds (front ++ back) → Holds front
  of_front front [] h = subst Holds (append-nil front) h
  of_front front (p ∷ back) h = of_front front back (less front p back h)

  of_back : (front back : List Pair) → Holds (front ++ back) → Holds back
  of_back [] back h = h
  of_back (p ∷ front) back h = of_back front back (less [] p (front ++ back) h)

  of_each : (ps : List Pair) → Holds ps → All (λ (p : Pair). Holds (p ∷ [])) ps
  of_each [] h = All-nil (λ (p : Pair). Holds (p ∷ []))
  of_each (p ∷ ps) h = All-cons (λ (q : Pair). Holds (q ∷ [])) p ps (of_front (p ∷ []) ps h) (of_each ps (less [] p ps h))

  of_chosen : (chosen : Pair → Bool) (front ps : List Pair) → Holds (front ++ ps) → Holds (front ++ filter chosen ps)
  of_chosen chosen front [] h = h
  of_chosen chosen front (p ∷ ps) h =
      by (chosen p) (subst Holds (append_assoc front (p ∷ []) (filter chosen ps)) (of_chosen chosen (front ++ (p ∷ [])) ps (subst Holds (sym (append_assoc front (p ∷ []) ps)) h)))
      (of_chosen chosen front ps (less front p ps h))
    where
      by : (b : Bool) → Holds (front ++ (p ∷ filter chosen ps)) → Holds (front ++ filter chosen ps) → Holds (front ++ cond b (p ∷ filter chosen ps) (filter chosen ps))
      by true with_it without = with_it
      by false with_it without = without

  module _ (pairs : List Pair) (at : ℕ) (kept : List Pair) (fits : Holds (kept ++ drop at pairs)) where
    pub kept_fits : Holds kept
    kept_fits = of_front kept (drop at pairs) fits

    pub each_left_fits : (n : ℕ) → All (λ (p : Pair). Holds (p ∷ [])) (take n (drop at pairs))
    each_left_fits n = All-take (λ (p : Pair). Holds (p ∷ [])) n (drop at pairs) (of_each (drop at pairs) (of_back kept (drop at pairs) fits))

    module _ (d : Pair) (within : at < length pairs) where
      whole : Holds (kept ++ (get_or pairs at d ∷ drop (at + 1) pairs))
      whole = subst (λ (ps : List Pair). Holds (kept ++ ps)) (drop_more pairs at d within) fits

      pub here_fits : Holds (get_or pairs at d ∷ [])
      here_fits = of_front (get_or pairs at d ∷ []) (drop (at + 1) pairs) (of_back kept (get_or pairs at d ∷ drop (at + 1) pairs) whole)

      pub others_fit : Holds (kept ++ drop (at + 1) pairs)
      others_fit = less kept (get_or pairs at d) (drop (at + 1) pairs) whole

      pub more_fits : (more : List Pair) → more ≡ kept ++ (get_or pairs at d ∷ []) → Holds (more ++ drop (at + 1) pairs)
      more_fits more is =
          subst Holds (sym (append_assoc kept (get_or pairs at d ∷ []) (drop (at + 1) pairs)) ∙ ap (λ (ks : List Pair). ks ++ drop (at + 1) pairs) (sym is)) whole

module _ (possible : List Pair → Bool) (m : IsMonotone possible) where
  -- where some of the pairs aren't possible together all aren't
  impossible_by_part : (chosen : Pair → Bool) (ps : List Pair) → possible (filter chosen ps) ≡ false → possible ps ≡ false
  impossible_by_part chosen ps never = false_by (possible ps) (possible (filter chosen ps)) never (of_chosen (λ (qs : List Pair). possible qs ≡ true) m.without chosen [] ps)

  impossible_by_front : (front back : List Pair) → possible front ≡ false → possible (front ++ back) ≡ false
  impossible_by_front front back never = false_by (possible (front ++ back)) (possible front) never (of_front (λ (qs : List Pair). possible qs ≡ true) m.without front back)

  -- what a refutation tells
  pub told_possible : (needs : Marks → Pair → Bool) (ps : List Pair) (core : Option Marks) → RefutesPairs possible needs ps core → is_none core ≡ possible ps
  told_possible needs ps None told = sym told
  told_possible needs ps (Some marks) told = sym (impossible_by_part (needs marks) ps told)

module _ (possible : List Pair → Bool) (needs : Marks → Pair → Bool) (pairs : List Pair) where
  pub reducing_first : (kept : List Pair) (core : Option Marks) → kept ≡ [] → IfSome core (λ marks. possible (filter (needs marks) pairs) ≡ false) → IsReducing possible needs pairs 0 kept core
  reducing_first kept core none refuted = subst (λ (ks : List Pair). IsReducing possible needs pairs 0 ks core) (sym none) (record { rest = refl; refuted = refuted })

  module _ (at : ℕ) (kept : List Pair) (core : Option Marks) (h : IsReducing possible needs pairs at kept core) where
    pub reducing_last : length pairs ≤ at → kept ≡ reduced possible [] pairs
    reducing_last done = sym (ap (reduced possible kept) (drop_all at pairs done)) ∙ h.rest

    module _ (m : IsMonotone possible) where
      -- where what is kept is impossible by itself, it needs nothing of what is left
      pub refuted_alone : (marks : Marks) (alone : List Pair) → alone ≡ kept → RefutesPairs possible needs alone (Some marks) → IsReducing possible needs pairs at kept (Some marks)
      refuted_alone marks alone is told =
          record {
            rest = h.rest;
            refuted =
                ap possible (filter-append (needs marks) kept (drop at pairs))
                ∙ impossible_by_front possible m (filter (needs marks) kept) (filter (needs marks) (drop at pairs)) (sym (ap (λ (ps : List Pair). possible (filter (needs marks) ps)) is) ∙ told);
          }

      module _ (d : Pair) (within : at < length pairs) where
        abbrev here : Pair
        here = get_or pairs at d

        abbrev behind : List Pair
        behind = drop (at + 1) pairs

        left_out : (marks : Marks) → possible (filter (needs marks) (kept ++ behind)) ≡ false → IsReducing possible needs pairs (at + 1) kept (Some marks)
        left_out marks refuted =
            record { rest = pair_left_out possible pairs kept at d (reduced possible [] pairs) within (impossible_by_part possible m (needs marks) (kept ++ behind) refuted) h.rest; refuted = refuted }

        -- a pair that isn't needed plays no part among those that are, and is left out
        without_it : (marks : Marks) → needs marks here ≡ false → filter (needs marks) (kept ++ behind) ≡ filter (needs marks) (kept ++ drop at pairs)
        without_it marks free =
            filter-append (needs marks) kept behind
            ∙ ap (λ b. filter (needs marks) kept ++ cond b (here ∷ filter (needs marks) behind) (filter (needs marks) behind)) (sym free)
            ∙ sym (filter-append (needs marks) kept (here ∷ behind))
            ∙ ap (λ (ps : List Pair). filter (needs marks) (kept ++ ps)) (sym (drop_more pairs at d within))

        pub unneeded : is_needed needs core here ≡ false → IsReducing possible needs pairs (at + 1) kept core
        unneeded = by core h.refuted
          where
            by : (o : Option Marks) → IfSome o (λ marks. possible (filter (needs marks) (kept ++ drop at pairs)) ≡ false) → is_needed needs o here ≡ false → IsReducing possible needs pairs (at + 1) kept o
            by None refuted free = absurd (cc free)
            by (Some marks) refuted free = left_out marks (ap possible (without_it marks free) ∙ refuted)

        module _ (others : List Pair) (is : others ≡ kept ++ behind) where
          -- so is one without which the others aren't possible
          pub refuted_again : (marks : Marks) → RefutesPairs possible needs others (Some marks) → IsReducing possible needs pairs (at + 1) kept (Some marks)
          refuted_again marks told = left_out marks (sym (ap (λ (ps : List Pair). possible (filter (needs marks) ps)) is) ∙ told)

          -- another is kept
          pub kept_one : (more : List Pair) → more ≡ kept ++ (here ∷ []) → RefutesPairs possible needs others None → IsReducing possible needs pairs (at + 1) more core
          kept_one more is_more told =
              let seam : (kept ++ (here ∷ [])) ++ behind ≡ kept ++ drop at pairs = append_assoc kept (here ∷ []) behind ∙ ap (λ (ps : List Pair). kept ++ ps) (sym (drop_more pairs at d within)) in
              subst (λ (ks : List Pair). IsReducing possible needs pairs (at + 1) ks core) (sym is_more)
              (record {
                rest = pair_kept possible pairs kept at d (reduced possible [] pairs) within (sym (ap possible is) ∙ told) h.rest;
                refuted = subst (λ (ps : List Pair). IfSome core (λ marks. possible (filter (needs marks) ps) ≡ false)) (sym seam) h.refuted;
              })
