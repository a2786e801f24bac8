-- How often a number stands in a list, and what one literal more makes true.
use Rattle.std.proofs.Common.{◌≡◌, ℕ, ◌+◌, Bool, true, false, ◌&&◌, ◌||◌, nat_eq, List, [], ◌∷◌, cond, count_by, refl, sym, ap, ap₂, subst, ◌∙◌, arith, inl, inr, Contains}
use Rattle.std.proofs.lemmas.Bool.Decides.{nat_tests}
use Rattle.std.proofs.lemmas.List.Sums.{sum_by-cons}
use Rattle.lv_base.specs.declared.ids.Lit.{Lit}
use Rattle.lv_base.specs.declared.ids.ClauseId.{ClauseId}
use Rattle.lv_clauses.proofs.LiteralLemmas.{Contains-head, Contains-tail, Contains-cases, Contains-nil}
use Rattle.lv_clauses.proofs.MarkLemmas.{same_truth-self}
use Rattle.lv_ltms.specs.Trail.{same_lit}
use Rattle.lv_ltms.specs.Watching.{times_in, has_number}
use Rattle.lv_ltms.proofs.BoolLemmas.{eq_from, eq_is, eq_isnt}

eq_refl : (a : ℕ) → nat_eq a a ≡ true
eq_refl a = grind (arith, nat_tests)

pub same_lit-self : (l : Lit) → same_lit l l ≡ true
same_lit-self l = ap₂ (λ a b. a && b) (eq_refl l.var.0) (same_truth-self l.sign)

-- truth of which one literal more is true
pub record HasMore (before after : Lit → Bool) (x : Lit) : Type 0 where
  pub grown : (l : Lit) → after l ≡ (before l || same_lit x l)
  pub fresh : before x ≡ false

arith_zero : (n : ℕ) → 0 + n ≡ n
arith_zero n = omega arith

module _ {X : Type 0} (p : X → Bool) where
  pub count_yes : (x : X) (xs : List X) → p x ≡ true → count_by p (x ∷ xs) ≡ 1 + count_by p xs
  count_yes x xs e = sum_by-cons (λ y. cond (p y) 1 0) x xs ∙ ap (λ (b : Bool). cond b 1 0 + count_by p xs) e

  pub count_no : (x : X) (xs : List X) → p x ≡ false → count_by p (x ∷ xs) ≡ count_by p xs
  count_no x xs e = sum_by-cons (λ y. cond (p y) 1 0) x xs ∙ ap (λ (b : Bool). cond b 1 0 + count_by p xs) e ∙ arith_zero (count_by p xs)

later_none : {X : Type 0} (p : X → Bool) (x : X) (xs : List X) → count_by p (x ∷ xs) ≡ 0 → count_by p xs ≡ 0
later_none p x xs e = by_value (p x) refl
  where
    by_value : (b : Bool) → p x ≡ b → count_by p xs ≡ 0
    by_value true q = absurd (omega (arith, e, count_yes p x xs q))
    by_value false q = sym (count_no p x xs q) ∙ e

-- a number that stands in a list is counted in it
pub times_in-none : (ids : List ClauseId) (id : ClauseId) → times_in ids id.0 ≡ 0 → Contains ids id → ⊥
times_in-none [] id e h = Contains-nil id h
times_in-none (i ∷ is) id e h = elim (Contains-cases i id is h) [
  | inl same ↦ absurd (omega (arith, e, count_yes (λ (j : ClauseId). nat_eq j.0 id.0) i is (ap (λ (j : ClauseId). nat_eq j.0 id.0) same ∙ eq_refl id.0)))
  | inr rest ↦ times_in-none is id (later_none (λ (j : ClauseId). nat_eq j.0 id.0) i is e) rest
]

-- what counts is there
pub times_some : (ids : List ClauseId) (id : ℕ) → (times_in ids id ≡ 0 → ⊥) → Contains ids (record { 0 = id })
times_some [] id some = absurd (some refl)
times_some (i ∷ is) id some = by_value (nat_eq i.0 id) refl (times_some is id)
  where
    by_value : (b : Bool) → nat_eq i.0 id ≡ b → ((times_in is id ≡ 0 → ⊥) → Contains is (record { 0 = id })) → Contains (i ∷ is) (record { 0 = id })
    by_value true e later = subst (λ (n : ℕ). Contains (i ∷ is) (record { 0 = n })) (eq_from i.0 id e) (Contains-head i is)
    by_value false e later = Contains-tail i (record { 0 = id }) is (later (λ f. some (count_no (has_number id) i is e ∙ f)))

pub times_same : (id : ClauseId) (ids : List ClauseId) → times_in (id ∷ ids) id.0 ≡ 1 + times_in ids id.0
times_same id ids = count_yes (has_number id.0) id ids (eq_is id.0 id.0 refl)

pub times_other : (id : ClauseId) (ids : List ClauseId) (other : ℕ) → (other ≡ id.0 → ⊥) → times_in (id ∷ ids) other ≡ times_in ids other
times_other id ids other differs = count_no (has_number other) id ids (eq_isnt id.0 other (λ e. differs (sym e)))
