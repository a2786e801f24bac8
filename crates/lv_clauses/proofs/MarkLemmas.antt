-- What one more mark changes.
use Rattle.std.proofs.Common.{◌≡◌, ◌⊎◌, ℕ, ◌<◌, suc, zero, Bool, true, false, not, nat_eq, ◌&&◌, ◌||◌, [], ◌∷◌, length, get_or, Option, Some, None, refl, sym, ap, ap₂, ◌∙◌, arith, inl, inr}
use Rattle.std.proofs.lemmas.Bool.{cases_eq, cases_lt}
use Rattle.std.proofs.lemmas.Bool.Decides.{nat_tests}
use Rattle.std.proofs.lemmas.List.{get_or-set_same, get_or-set_other, set_past}
use Rattle.lv_base.specs.declared.ids.Lit.{Lit}
use Rattle.lv_clauses.specs.Literals.{neg, same_truth, same_var}
use Rattle.lv_clauses.specs.Marks.{Marks, nothing, is_marked, marked, mark_is}
use Rattle.lv_clauses.proofs.LiteralLemmas.{lit_of}

pub same_truth-equal : (a b : Bool) → same_truth a b ≡ true → a ≡ b
same_truth-equal true true e = refl
same_truth-equal false false e = refl
same_truth-equal true false e = absurd (cc)
same_truth-equal false true e = absurd (cc)

pub same_truth-self : (a : Bool) → same_truth a a ≡ true
same_truth-self true = refl
same_truth-self false = refl

-- a literal that is true after one more mark is that one or was true before
pub is_marked-marked_cases : (marks : Marks) (l m : Lit) → is_marked (marked marks l) m ≡ true → (m ≡ l) ⊎ (is_marked marks m ≡ true)
is_marked-marked_cases marks l m e = elim (cases_eq m.var.0 l.var.0) [
  | inr differs ↦ inr (sym (ap (λ (o : Option Bool). mark_is o m.sign) (get_or-set_other marks l.var.0 m.var.0 (Some l.sign) None differs)) ∙ e)
  | inl same ↦ elim (cases_lt l.var.0 (length marks)) [
    | inl within ↦
        let now : get_or (marked marks l) m.var.0 None ≡ Some l.sign =
        ap (λ k. get_or (marked marks l) k None) same ∙ get_or-set_same marks l.var.0 (Some l.sign) None within in
        let signs : same_truth l.sign m.sign ≡ true = sym (ap (λ (o : Option Bool). mark_is o m.sign) now) ∙ e in
        inl (lit_of m l same (sym (same_truth-equal l.sign m.sign signs)))
    | inr past ↦ inr (sym (ap (λ (ms : Marks). is_marked ms m) (set_past marks l.var.0 (Some l.sign) past)) ∙ e)
  ]
]

none_of : (n k : ℕ) → get_or (nothing n) k None ≡ None
none_of zero k = refl
none_of (suc n) zero = refl
none_of (suc n) (suc k) = none_of n k

pub is_marked-nothing : (n : ℕ) (l : Lit) → is_marked (nothing n) l ≡ false
is_marked-nothing n l = ap (λ (o : Option Bool). mark_is o l.sign) (none_of n l.var.0)

-- marks of which none is set are those of nothing
pub nothing-from_none : (marks : Marks) → ((k : ℕ) → k < length marks → get_or marks k None ≡ None) → marks ≡ nothing (length marks)
nothing-from_none [] none = refl
nothing-from_none (m ∷ ms) none = rw (none 0 (omega arith)) (ap (λ (xs : Marks). None ∷ xs) (nothing-from_none ms (λ k within. none (suc k) (omega arith))))

eq_is : (a b : ℕ) → a ≡ b → nat_eq a b ≡ true
eq_is a b e = grind (arith, nat_tests)

eq_isnt : (a b : ℕ) → (a ≡ b → ⊥) → nat_eq a b ≡ false
eq_isnt a b e = grind (arith, nat_tests)

-- a free literal that is marked adds itself and nothing else
pub is_marked-marked_free : (marks : Marks) (l m : Lit) → l.var.0 < length marks → is_marked marks l ≡ false → is_marked marks (neg l) ≡ false → is_marked (marked marks l) m ≡ (is_marked marks m || (same_var l m && same_truth l.sign m.sign))
is_marked-marked_free marks l m within p q = elim (cases_eq l.var.0 m.var.0) [
  | inl same ↦
      let now : get_or (marked marks l) m.var.0 None ≡ Some l.sign =
      ap (λ k. get_or (marked marks l) k None) (sym same) ∙ get_or-set_same marks l.var.0 (Some l.sign) None within in
      let was : is_marked marks m ≡ false = ap (λ k. mark_is (get_or marks k None) m.sign) (sym same) ∙ neither (get_or marks l.var.0 None) l.sign m.sign p q in
      ap (λ (o : Option Bool). mark_is o m.sign) now
      ∙ sym (ap₂ (λ b c. b || (c && same_truth l.sign m.sign)) was (eq_is l.var.0 m.var.0 same))
  | inr differs ↦
      ap (λ (o : Option Bool). mark_is o m.sign) (get_or-set_other marks l.var.0 m.var.0 (Some l.sign) None (λ e. differs (sym e)))
      ∙ sym (ap (λ c. is_marked marks m || (c && same_truth l.sign m.sign)) (eq_isnt l.var.0 m.var.0 differs) ∙ or_false (is_marked marks m))
]
  where
    or_false : (b : Bool) → (b || false) ≡ b
    or_false true = refl
    or_false false = refl

    neither : (o : Option Bool) (s t : Bool) → mark_is o s ≡ false → mark_is o (not s) ≡ false → mark_is o t ≡ false
    neither None s t p q = refl
    neither (Some true) true t p q = absurd (cc)
    neither (Some true) false t p q = absurd (cc)
    neither (Some false) true t p q = absurd (cc)
    neither (Some false) false t p q = absurd (cc)
