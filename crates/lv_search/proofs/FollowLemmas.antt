-- What a turn does leaves the walk as it was.
use Rattle.std.proofs.Common.{◌≡◌, ◌≢◌, ◌⊎◌, ℕ, suc, ◌+◌, ◌≤◌, Bool, true, false, List, [], ◌∷◌, ◌++◌, length, drop, nat_eq, inl, inr, refl, sym, ◌∙◌, ap, subst, arith}
use Rattle.std.specs.Prelude.{Option, Some, None}
use Rattle.std.specs.List.{list_all, list_any}
use Rattle.std.proofs.lemmas.Bool.{and_parts, or_left, or_right, eqb-true, eqb-false}
use Rattle.std.proofs.lemmas.List.{length-append}
use Rattle.std.proofs.lemmas.List.Folds.{list_any_at}
use Rattle.lv_base.specs.declared.rank.Rank.{Rank}
use Rattle.lv_base.specs.declared.search.Pair.{Pair}
use Rattle.lv_base.specs.declared.search.Candidate.{Candidate}
use Rattle.lv_base.specs.Choices.{contains_all}
use Rattle.lv_boxes.specs.declared.outcome.Outcome.{Outcome}
use Rattle.lv_boxes.specs.Walk.{candidate_of, is_ruled_out, suit_all, walk_from}
use Rattle.lv_boxes.specs.Groups.{have_same_groups, alike_by}
use Rattle.lv_boxes.proofs.TurnLemmas.{walk_full, walk_repeated, walk_thinned, walk_listed, walk_refused}
use Rattle.lv_search.specs.Frontier.{Thins, ThinsAlike, IsLikeFirst, LeftAfter}
use Rattle.lv_search.specs.Standing.{Standing, trials_of, walk_on, conflict_at, all_suit, Follows}
use Rattle.lv_search.specs.Turn.{PassesOver, IsRepeated, IsTrial, IsListed, GoesOnTo, EndsAt}
use Rattle.lv_search.proofs.NextLemmas.{first_and_rest, shorter_without}
use Rattle.lv_search.proofs.GroupLemmas.{has_own_groups, groups_join, alike_listed, alike_last}
use Rattle.lv_search.proofs.LeftLemmas.{all_filtered}

module _ (suits fits : Candidate → Bool) (reason : Candidate → List Pair) where
  pub follows_itself : (s : Standing) → Follows suits fits reason s s
  follows_itself s = record { walk = λ budget few. refl; trials = omega arith; k = refl; groups = refl; suit = λ h. h }

  pub follows_on : (a b d : Standing) → Follows suits fits reason a b → Follows suits fits reason b d → Follows suits fits reason a d
  follows_on a b d f g =
      let first = f.trials in
      let then = g.trials in
      record {
        walk = λ budget few. g.walk budget few ∙ f.walk budget (omega (arith, then, few));
        trials = omega (arith, first, then);
        k = g.k ∙ f.k;
        groups = g.groups ∙ f.groups;
        suit = λ h. g.suit (f.suit h);
      }

  module _ (budget : ℕ) (old : Standing) (few : trials_of old ≤ budget) where
    -- what a kept conflict rules out may be dropped
    pub thinned_goes_on : (number : ℕ) (left : List Rank) (new : Standing) → PassesOver number old → Thins (conflict_at old.kept number) old.left left
        → new ≡ record old { left = left } → GoesOnTo suits fits reason budget old new
    thinned_goes_on number left new passes thins is =
        let shorter = shorter_without thins.keeps old.left left thins.same thins.first in
        subst (λ (s : Standing). GoesOnTo suits fits reason budget old s) (sym is)
        record {
          follows = record {
            walk = λ b _. ap (λ rs. walk_on fits reason b (record old { left = rs })) thins.same
                ∙ walk_thinned (alike_by old.groups) fits reason old.k b thins.keeps old.left old.listed old.kept
                (λ r e. or_left (is_ruled_out old.kept r.choices) (list_any (alike_by old.groups r) old.listed) (list_any_at (contains_all r.choices) old.kept number [] passes.within (thins.only r e)));
            trials = omega arith;
            k = refl;
            groups = refl;
            suit = λ h. ap (λ rs. list_all (λ (r : Rank). suits (candidate_of r)) rs) thins.same ∙ all_filtered (λ (r : Rank). suits (candidate_of r)) thins.keeps old.left h;
          };
          few = few;
          nearer = omega (arith, shorter);
        }

    -- what is left once the first is left out, which is alike a listed one now
    module _ (groups : Option (List (List ℕ))) (rank : Rank) (rest listed : List Rank) (left : List Rank) (is_left : old.left ≡ rank ∷ rest) where
      record IsBehind : Type 0 where
        walk : (b : ℕ) → walk_from (alike_by groups) fits reason old.k b listed old.kept left ≡ walk_from (alike_by groups) fits reason old.k b listed old.kept rest
        suit : all_suit suits old ≡ true → suit_all suits left ≡ true
        short : length left ≤ length rest

      alone : left ≡ drop 1 old.left → IsBehind
      alone is =
          let same : left ≡ rest = is ∙ ap (λ rs. drop 1 rs) is_left in
          record {
            walk = λ b. ap (λ rs. walk_from (alike_by groups) fits reason old.k b listed old.kept rs) same;
            suit = λ h. ap (λ rs. suit_all suits rs) same
                ∙ (and_parts (suits (candidate_of rank)) (suit_all suits rest) (sym (ap (λ rs. suit_all suits rs) is_left) ∙ h)).1;
            short = let e : length left ≡ length rest = ap length same in omega (arith, e);
          }

      -- an entry that is alike the first is alike a listed one, and so is the first
      thinned : (groups_are : List (List ℕ)) → groups ≡ Some groups_are → ((r : Rank) → have_same_groups groups_are r.choices rank.choices ≡ true → list_any (alike_by groups r) listed ≡ true)
          → ThinsAlike groups_are old.left left → IsBehind
      thinned gs is covered thins =
          let shorter = shorter_without thins.keeps old.left left thins.same thins.first in
          let first_covered : list_any (alike_by groups rank) listed ≡ true = covered rank (has_own_groups gs rank.choices) in
          record {
            walk =
                λ b. ap (λ rs. walk_from (alike_by groups) fits reason old.k b listed old.kept rs) thins.same
                ∙ walk_thinned (alike_by groups) fits reason old.k b thins.keeps old.left listed old.kept
                (λ r e. or_right (is_ruled_out old.kept r.choices) (list_any (alike_by groups r) listed) (covered r (subst (λ (rs : List Rank). IsLikeFirst gs r rs) is_left (thins.only r e))))
                ∙ ap (λ rs. walk_from (alike_by groups) fits reason old.k b listed old.kept rs) is_left
                ∙ over b (nat_eq (length listed) old.k) refl first_covered;
            suit = λ h. ap (λ rs. suit_all suits rs) thins.same ∙ all_filtered (λ (r : Rank). suits (candidate_of r)) thins.keeps old.left h;
            short = let long : length old.left ≡ suc (length rest) = ap length is_left in omega (arith, shorter, long);
          }
        where
          over : (b : ℕ) (full : Bool) → nat_eq (length listed) old.k ≡ full → list_any (alike_by groups rank) listed ≡ true
              → walk_from (alike_by groups) fits reason old.k b listed old.kept (rank ∷ rest) ≡ walk_from (alike_by groups) fits reason old.k b listed old.kept rest
          over b true e h =
              let full : length listed ≡ old.k = eqb-true (length listed) old.k e in
              walk_full (alike_by groups) fits reason old.k b (rank ∷ rest) listed old.kept full ∙ sym (walk_full (alike_by groups) fits reason old.k b rest listed old.kept full)
          over b false e h = walk_repeated (alike_by groups) fits reason old.k b rank rest listed old.kept (eqb-false (length listed) old.k e) h

    behind : (groups : Option (List (List ℕ))) (rank : Rank) (rest listed left : List Rank) (is_left : old.left ≡ rank ∷ rest)
        → ((gs : List (List ℕ)) → groups ≡ Some gs → (r : Rank) → have_same_groups gs r.choices rank.choices ≡ true → list_any (alike_by groups r) listed ≡ true)
        → LeftAfter groups old.left left → IsBehind groups rank rest listed left is_left
    behind None rank rest listed left is_left covered after = alone None rank rest listed left is_left after
    behind (Some gs) rank rest listed left is_left covered (inl after) = alone (Some gs) rank rest listed left is_left after
    behind (Some gs) rank rest listed left is_left covered (inr thins) = thinned (Some gs) rank rest listed left is_left gs refl (covered gs refl) thins

    -- one that is alike a listed one is left out
    pub repeated_goes_on : (left : List Rank) (new : Standing) → IsRepeated old → LeftAfter old.groups old.left left → new ≡ record old { left = left } → GoesOnTo suits fits reason budget old new
    repeated_goes_on left new t after is =
        let split = first_and_rest old.left t.rank t.first in
        let now = behind old.groups t.rank split.0 old.listed left split.1
        (λ gs same r e. alike_listed (alike_by old.groups) (groups_join old.groups) r t.rank old.listed (by_groups gs same r t.rank e) t.alike) after
        in
        let short = now.short in
        let long : length old.left ≡ suc (length split.0) = ap length split.1 in
        subst (λ (s : Standing). GoesOnTo suits fits reason budget old s) (sym is)
        record {
          follows = record {
            walk = λ b _. now.walk b
                ∙ sym (ap (λ rs. walk_from (alike_by old.groups) fits reason old.k b old.listed old.kept rs) split.1
                ∙ walk_repeated (alike_by old.groups) fits reason old.k b t.rank split.0 old.listed old.kept t.fewer t.alike);
            trials = omega arith;
            k = refl;
            groups = refl;
            suit = now.suit;
          };
          few = few;
          nearer = omega (arith, short, long);
        }
      where
        by_groups : (gs : List (List ℕ)) → old.groups ≡ Some gs → (r q : Rank) → have_same_groups gs r.choices q.choices ≡ true → alike_by old.groups r q ≡ true
        by_groups gs same r q e = ap (λ (g : Option (List (List ℕ))). alike_by g r q) same ∙ e

    module _ (rank : Rank) (candidate : Candidate) (t : IsTrial rank candidate budget old) where
      abbrev rest : List Rank
      rest = (first_and_rest old.left rank t.first).0

      left_is : old.left ≡ rank ∷ rest
      left_is = (first_and_rest old.left rank t.first).1

      still_below : (b : ℕ) → trials_of old + 1 ≤ b → trials_of old ≢ b
      still_below b more e = absurd (omega (arith, more, e))

      one_left : trials_of old + 1 ≤ budget
      one_left = let other : trials_of old ≢ budget = t.not_used_up in omega (arith, other, few)

      more_listed : length (old.listed ++ (rank ∷ [])) + length old.kept ≡ trials_of old + 1
      more_listed = let longer : length (old.listed ++ (rank ∷ [])) ≡ length old.listed + 1 = length-append old.listed (rank ∷ []) in omega (arith, longer)

      more_kept : length old.listed + length (old.kept ++ (reason candidate ∷ [])) ≡ trials_of old + 1
      more_kept = let longer : length (old.kept ++ (reason candidate ∷ [])) ≡ length old.kept + 1 = length-append old.kept (reason candidate ∷ []) in omega (arith, longer)

      -- the walk comes to it: it fits
      walk_to : (b : ℕ) → trials_of old + 1 ≤ b → fits candidate ≡ true → walk_on fits reason b old ≡ walk_from (alike_by old.groups) fits reason old.k b (old.listed ++ (rank ∷ [])) old.kept rest
      walk_to b more fit =
          ap (λ rs. walk_from (alike_by old.groups) fits reason old.k b old.listed old.kept rs) left_is
          ∙ walk_listed (alike_by old.groups) fits reason old.k b rank rest old.listed old.kept t.fewer t.not_ruled_out t.fresh (still_below b more) (ap fits (sym t.candidate_is) ∙ fit)

      -- with the last one listed nothing is asked of what is left
      last_goes_on : fits candidate ≡ true → length (old.listed ++ (rank ∷ [])) ≡ old.k → GoesOnTo suits fits reason budget old (record old { listed = old.listed ++ (rank ∷ []) })
      last_goes_on fit full =
          record {
            follows = record {
              walk = λ b more. walk_full (alike_by old.groups) fits reason old.k b old.left (old.listed ++ (rank ∷ [])) old.kept full
                  ∙ sym (walk_to b (omega (arith, more, more_listed)) fit ∙ walk_full (alike_by old.groups) fits reason old.k b rest (old.listed ++ (rank ∷ [])) old.kept full);
              trials = omega (arith, more_listed);
              k = refl;
              groups = refl;
              suit = λ h. h;
            };
            few = omega (arith, more_listed, one_left);
            nearer = omega (arith, more_listed, one_left);
          }

      left_goes_on : (left : List Rank) → fits candidate ≡ true → LeftAfter old.groups old.left left → GoesOnTo suits fits reason budget old (record old { listed = old.listed ++ (rank ∷ []); left = left })
      left_goes_on left fit after =
          let now = behind old.groups rank rest (old.listed ++ (rank ∷ [])) left left_is
          (λ gs same r e. alike_last (alike_by old.groups) r rank old.listed (ap (λ (g : Option (List (List ℕ))). alike_by g r rank) same ∙ e)) after
          in
          let short = now.short in
          let long : length old.left ≡ suc (length rest) = ap length left_is in
          record {
            follows = record {
              walk = λ b more. now.walk b ∙ sym (walk_to b (omega (arith, more, more_listed)) fit);
              trials = omega (arith, more_listed);
              k = refl;
              groups = refl;
              suit = now.suit;
            };
            few = omega (arith, more_listed, one_left);
            nearer = omega (arith, more_listed, one_left, long, short);
          }

      -- one that fits is listed
      pub listed_goes_on : (new : Standing) → fits candidate ≡ true → IsListed rank old new → GoesOnTo suits fits reason budget old new
      listed_goes_on new fit l = subst (λ (s : Standing). GoesOnTo suits fits reason budget old s) (sym l.is) (by l.left)
        where
          by : ((length (old.listed ++ (rank ∷ [])) ≡ old.k) × (new.left ≡ old.left)) ⊎ LeftAfter old.groups old.left new.left
              → GoesOnTo suits fits reason budget old (record old { listed = old.listed ++ (rank ∷ []); left = new.left })
          by (inl last) = subst (λ rs. GoesOnTo suits fits reason budget old (record old { listed = old.listed ++ (rank ∷ []); left = rs })) (sym last.1) (last_goes_on fit last.0)
          by (inr after) = left_goes_on new.left fit after

      -- of one that doesn't the reason is kept
      pub refused_goes_on : (new : Standing) → fits candidate ≡ false → contains_all candidate.choices (reason candidate) ≡ true
          → new ≡ record { k = old.k; groups = old.groups; listed = old.listed; kept = old.kept ++ (reason candidate ∷ []); left = old.left } → GoesOnTo suits fits reason budget old new
      refused_goes_on new fit inside is =
          subst (λ (s : Standing). GoesOnTo suits fits reason budget old s) (sym is)
          record {
            follows = record {
              walk = λ b more. subst (λ (rs : List Rank). walk_on fits reason b (record { k = old.k; groups = old.groups; listed = old.listed; kept = old.kept ++ (reason candidate ∷ []); left = rs }) ≡ walk_on fits reason b (record old { left = rs })) (sym left_is)
                  (sym (subst (λ (c : Candidate). fits c ≡ false → contains_all c.choices (reason c) ≡ true
                  → walk_on fits reason b (record old { left = rank ∷ rest }) ≡ walk_on fits reason b (record { k = old.k; groups = old.groups; listed = old.listed; kept = old.kept ++ (reason c ∷ []); left = rank ∷ rest })) (sym t.candidate_is)
                  (walk_refused (alike_by old.groups) fits reason old.k b rank rest old.listed old.kept t.fewer t.not_ruled_out t.fresh (still_below b (omega (arith, more, more_kept)))) fit inside));
              trials = omega (arith, more_kept);
              k = refl;
              groups = refl;
              suit = λ h. h;
            };
            few = omega (arith, more_kept, one_left);
            nearer = omega (arith, more_kept, one_left);
          }

      -- whatever the trial tells
      pub tried_goes_on : (new : Standing)
          → (fits candidate ≡ true → IsListed rank old new)
          → (fits candidate ≡ false → new ≡ record { k = old.k; groups = old.groups; listed = old.listed; kept = old.kept ++ (reason candidate ∷ []); left = old.left })
          → (fits candidate ≡ false → contains_all candidate.choices (reason candidate) ≡ true)
          → GoesOnTo suits fits reason budget old new
      tried_goes_on new listed refused inside = by (fits candidate) refl
        where
          by : (b : Bool) → fits candidate ≡ b → GoesOnTo suits fits reason budget old new
          by true e = listed_goes_on new e (listed e)
          by false e = refused_goes_on new e (inside e) (refused e)

  -- the first of what suits suits
  pub first_suits : (s : Standing) (rank : Rank) (candidate : Candidate) (budget : ℕ) → IsTrial rank candidate budget s → all_suit suits s ≡ true → suits candidate ≡ true
  first_suits s rank candidate budget t h =
      let left = first_and_rest s.left rank t.first in
      ap suits t.candidate_is
      ∙ (and_parts (suits (candidate_of rank)) (list_all (λ (r : Rank). suits (candidate_of r)) left.0)
      (subst (λ (rs : List Rank). list_all (λ (r : Rank). suits (candidate_of r)) rs ≡ true) left.1 h)).0

module _ {T : Type 0} (suits fits : T → Candidate → Bool) (reason : T → Candidate → List Pair) (start now : T) (same : now ≡ start) where
  -- what a turn's trial means is what it meant at the start
  pub suit_now : (old new : Standing) → Follows (suits start) (fits start) (reason start) old new → all_suit (suits start) old ≡ true → all_suit (suits now) new ≡ true
  suit_now old new f h = subst (λ (t : T). all_suit (suits t) new ≡ true) (sym same) (f.suit h)

  pub goes_on_after : (budget : ℕ) (a b d : Standing) → Follows (suits start) (fits start) (reason start) a b → GoesOnTo (suits now) (fits now) (reason now) budget b d
      → Follows (suits start) (fits start) (reason start) a d
  goes_on_after budget a b d f turn =
      follows_on (suits start) (fits start) (reason start) a b d f
      (subst (λ (t : T). Follows (suits t) (fits t) (reason t) b d) same turn.follows)

  pub ends_after : (outcome : Outcome) (budget : ℕ) (a b d : Standing) → Follows (suits start) (fits start) (reason start) a b → trials_of b ≤ budget
      → EndsAt outcome (fits now) (reason now) budget b d → EndsAt outcome (fits start) (reason start) budget a d
  ends_after outcome budget a b d f few ends =
      sym (f.walk budget few)
      ∙ subst (λ (t : T). EndsAt outcome (fits t) (reason t) budget b d) same ends
