-- An entry that gives way to its reason isn't needed any more, and that of its reason is.
use Rattle.std.proofs.Common.{◌≡◌, ◌≢◌, ◌⊎◌, ℕ, ◌+◌, ◌<◌, ◌≤◌, Bool, true, false, not, List, [], ◌∷◌, length, filter, take, get_or, cond, Option, Some, None, refl, sym, ap, ap₂, subst, ◌∙◌, arith, inl, inr, Contains}
use Rattle.std.proofs.lemmas.List.{get_or-set_other, length-set}
use Rattle.lv_base.specs.declared.ids.Lit.{Lit}
use Rattle.lv_clauses.specs.Literals.{neg}
use Rattle.lv_clauses.specs.ClauseMap.{ClauseMap}
use Rattle.lv_clauses.proofs.LiteralLemmas.{Contains-cases}
use Rattle.lv_clauses.specs.declared.log.Hint.{Hint}
use Rattle.lv_clauses.specs.declared.log.Step.{Step}
use Rattle.lv_trail.specs.declared.trail.Entry.{Entry}
use Rattle.lv_trail.specs.Trail.{same_lit, among, lits_of, IsChain}
use Rattle.lv_trail.specs.Analysis.{sees, seen_by, IsPending, Replaces}
use Rattle.lv_trail.proofs.ListLemmas.{same_lit-equal, same_lit-self, among_member, among_contained}
use Rattle.lv_trail.proofs.TrailLemmas.{cut_contained, not_so}
use Rattle.lv_trail.proofs.SeenLemmas.{in_filter, from_filter}
use Rattle.lv_trail.proofs.AnalysisLemmas.{opposed, front_among, here_among, apart_before, pending_reason}

passes : {X : Type 0} (p : X → Bool) (xs : List X) (x : X) → Contains (filter p xs) x → p x ≡ true
passes p [] x h = absurd (omega (arith, h.1))
passes p (y ∷ ys) x h = by_value (p y) refl h (λ more. passes p ys x more)
  where
    by_value : (b : Bool) → p y ≡ b → Contains (cond (p y) (y ∷ filter p ys) (filter p ys)) x → (Contains (filter p ys) x → p x ≡ true) → p x ≡ true
    by_value true v h rest = by_place (Contains-cases y x (filter p ys) (rw v at h))
      where
        by_place : (y ≡ x) ⊎ Contains (filter p ys) x → p x ≡ true
        by_place (inl same) = ap p (sym same) ∙ v
        by_place (inr more) = rest more
    by_value false v h rest = rest (rw v at h)

same_or_not : (a b : Bool) → (b ≡ a) ⊎ (b ≡ not a)
same_or_not true true = inl refl
same_or_not true false = inr refl
same_or_not false true = inr refl
same_or_not false false = inl refl

-- literals of one boolean are equal or negations of each other
of_one : (a b : Lit) → b.var.0 ≡ a.var.0 → (b ≡ a) ⊎ (b ≡ neg a)
of_one a b same = by_sign (same_or_not a.sign b.sign)
  where
    by_sign : (b.sign ≡ a.sign) ⊎ (b.sign ≡ not a.sign) → (b ≡ a) ⊎ (b ≡ neg a)
    by_sign (inl e) = inl (ap₂ {A = ℕ} {B = Bool} {C = Lit} (λ (x : ℕ) (y : Bool). record { var = record { 0 = x }; sign = y }) same e)
    by_sign (inr e) = inr (ap₂ {A = ℕ} {B = Bool} {C = Lit} (λ (x : ℕ) (y : Bool). record { var = record { 0 = x }; sign = y }) same e)

module _ (cs : ClauseMap) (log : List Step) (entries : List Entry) (chain : IsChain cs log entries) (at : ℕ) (d : Entry) (within : at < length entries) (place : ℕ) (below : at ≤ place) where
  here : Lit
  here = (get_or entries at d).lit

  whole : List Lit
  whole = lits_of (take (place + 1) entries)

  other : Lit → Bool
  other l = not (same_lit here l)

  kept : List Lit
  kept = filter other whole

  in_kept : (l : Lit) → among whole l ≡ true → same_lit here l ≡ false → among kept l ≡ true
  unfolding kept other
  in_kept l e differs = among_member kept l (in_filter other whole l (among_contained whole l e) (ap not differs))

  in_whole : (l : Lit) → among kept l ≡ true → among whole l ≡ true
  unfolding kept
  in_whole l e = among_member whole l (from_filter other whole l (among_contained kept l e))

  split : (l : Lit) → among whole l ≡ true → (among kept l ≡ true) ⊎ (same_lit here l ≡ true)
  split l e = by_value (same_lit here l) refl
    where
      by_value : (b : Bool) → same_lit here l ≡ b → (among kept l ≡ true) ⊎ (same_lit here l ≡ true)
      by_value true f = inr f
      by_value false f = inl (in_kept l e f)

  front : (l : Lit) → among (lits_of (take at entries)) l ≡ true → among kept l ≡ true
  unfolding here whole
  front l e =
      in_kept l (among_member whole l (cut_contained entries at (place + 1) l (omega (arith, below)) (among_contained (lits_of (take at entries)) l e)))
      (not_so (same_lit here l) (λ s. apart_before cs log entries chain at d within l e (ap (λ (k : Lit). k.var.0) (sym (same_lit-equal here l s)))))

  apart : (l : Lit) → among kept l ≡ true → l.var.0 ≢ here.var.0
  unfolding here whole kept other
  apart l e same = by_sign (of_one here l same)
    where
      by_sign : (l ≡ here) ⊎ (l ≡ neg here) → ⊥
      by_sign (inl is) = cc (ap (same_lit here) is, same_lit-self here, passes other whole l (among_contained kept l e))
      by_sign (inr is) =
          opposed cs log entries chain here (here_among cs log entries chain at d within)
          (subst (λ (k : Lit). among (lits_of entries) k ≡ true) is (front_among cs log entries chain (place + 1) l (in_whole l e)))

  pub pending_replaced : (seen : List Bool) (hints : List Hint) (now_seen : List Bool) (taken : List Hint) → IsPending cs log entries (lits_of (take (place + 1) entries)) seen hints
      → Replaces cs.slots log (get_or entries at d).lit (get_or entries at d).reason seen hints now_seen taken → IsPending cs log entries (lits_of (take (place + 1) entries)) now_seen taken
  unfolding here whole
  pending_replaced seen hints now_seen taken pending way = by_reason (get_or entries at d).reason refl way
    where
      by_reason : (r : Option Hint) → (get_or entries at d).reason ≡ r → Replaces cs.slots log here r seen hints now_seen taken → IsPending cs log entries whole now_seen taken
      by_reason None f same = subst (λ (s : List Bool). IsPending cs log entries whole s taken) (sym same.seen) (subst (IsPending cs log entries whole seen) (sym same.hints) pending)
      by_reason (Some h) f given =
          let more : List Bool = seen_by cs.slots log h seen in
          let mid : IsPending cs log entries kept more taken
          = pending_reason cs log entries chain at d within whole kept split seen hints pending h more taken f front apart (record { seen = refl; hints = given.hints }) in
          record {
            len = ap (λ (s : List Bool). length s) given.seen ∙ length-set more here.var.0 false ∙ mid.len;
            ends =
                λ now size covers.
                mid.ends now size
                (record {
                  needed =
                      λ l among_it seen_it.
                      covers.needed l (in_whole l among_it)
                      (ap (λ (s : List Bool). sees s l) given.seen ∙ get_or-set_other more here.var.0 l.var.0 false false (apart l among_it) ∙ seen_it);
                  within = covers.within;
                });
          }
