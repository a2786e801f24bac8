-- Repeated literals and clauses with a literal and its negation make no difference to what clauses say.
use Rattle.std.proofs.Common.{◌≡◌, ℕ, Bool, true, false, not, ◌&&◌, ◌||◌, List, [], ◌∷◌, filter, refl, sym, ap, ap₂, ◌∙◌}
use Rattle.std.specs.List.{list_any}
use Rattle.std.proofs.lemmas.Bool.{or_right}
use Rattle.lv_base.specs.declared.ids.Lit.{Lit}
use Rattle.lv_clauses.specs.Literals.{neg, same_truth}
use Rattle.lv_compile.specs.FormulaClauses.{Clauses}
use Rattle.lv_compile.specs.Cleaning.{same_literal, is_tautology, without_repeats, cleaned}
use Rattle.lv_compile.specs.Laws.{literal_is_true, clause_is_true, are_true}
use Rattle.lv_compile.proofs.TautologyLemmas.{one_literal}

other_sign : (b s : Bool) → same_truth b s ≡ false → same_truth b (not s) ≡ true
other_sign true true e = absurd (cc)
other_sign true false e = refl
other_sign false true e = refl
other_sign false false e = absurd (cc)

module _ (truth : ℕ → Bool) where
  same_literal_true : (l m : Lit) → same_literal l m ≡ true → literal_is_true truth l ≡ literal_is_true truth m
  same_literal_true l m e = ap (literal_is_true truth) (one_literal l m e)

  -- where the literal is false, its negation is a true literal of the list
  negation_true : (l : Lit) → literal_is_true truth l ≡ false → (ls : List Lit) → list_any (same_literal (neg l)) ls ≡ true → clause_is_true truth ls ≡ true
  negation_true l e [] h = absurd (cc)
  negation_true l e (m ∷ ls) h = by (same_literal (neg l) m) refl (negation_true l e ls)
    where
      by : (b : Bool) → same_literal (neg l) m ≡ b → (list_any (same_literal (neg l)) ls ≡ true → clause_is_true truth ls ≡ true) → (literal_is_true truth m || clause_is_true truth ls) ≡ true
      by true is rest = ap (λ (b : Bool). b || clause_is_true truth ls) (sym (same_literal_true (neg l) m is) ∙ other_sign (truth l.var.0) l.sign e)
      by false is rest = or_right (literal_is_true truth m) (clause_is_true truth ls) (rest (sym (ap (λ (b : Bool). b || list_any (same_literal (neg l)) ls) is) ∙ h))

  tautology_true : (c : List Lit) → is_tautology c ≡ true → clause_is_true truth c ≡ true
  tautology_true [] h = absurd (cc)
  tautology_true (l ∷ ls) h = by (literal_is_true truth l) refl (list_any (same_literal (neg l)) ls) refl (tautology_true ls)
    where
      by : (b : Bool) → literal_is_true truth l ≡ b → (d : Bool) → list_any (same_literal (neg l)) ls ≡ d → (is_tautology ls ≡ true → clause_is_true truth ls ≡ true) → (literal_is_true truth l || clause_is_true truth ls) ≡ true
      by true e d f rest = ap (λ (b : Bool). b || clause_is_true truth ls) e
      by false e true f rest = ap (λ (b : Bool). b || clause_is_true truth ls) e ∙ negation_true l e ls f
      by false e false f rest = ap (λ (b : Bool). b || clause_is_true truth ls) e ∙ rest (sym (ap (λ (b : Bool). b || is_tautology ls) f) ∙ h)

  -- a false literal may be left out
  false_left_out : (l : Lit) → literal_is_true truth l ≡ false → (ls : List Lit) → clause_is_true truth (filter (λ (m : Lit). not (same_literal l m)) ls) ≡ clause_is_true truth ls
  false_left_out l e [] = refl
  false_left_out l e (m ∷ ls) = by (same_literal l m) refl (false_left_out l e ls)
    where
      rest : List Lit
      rest = filter (λ (m : Lit). not (same_literal l m)) ls

      by : (b : Bool) → same_literal l m ≡ b → clause_is_true truth rest ≡ clause_is_true truth ls → clause_is_true truth (filter (λ (m : Lit). not (same_literal l m)) (m ∷ ls)) ≡ (literal_is_true truth m || clause_is_true truth ls)
      by true is ih = rw (is) (ih ∙ sym (ap (λ (b : Bool). b || clause_is_true truth ls) (sym (same_literal_true l m is) ∙ e)))
      by false is ih = rw (is) (ap (λ (b : Bool). literal_is_true truth m || b) ih)

  pub without_repeats_true : (c : List Lit) → clause_is_true truth (without_repeats c) ≡ clause_is_true truth c
  without_repeats_true [] = refl
  without_repeats_true (l ∷ ls) = by (literal_is_true truth l) refl (without_repeats_true ls)
    where
      by : (b : Bool) → literal_is_true truth l ≡ b → clause_is_true truth (without_repeats ls) ≡ clause_is_true truth ls → clause_is_true truth (without_repeats (l ∷ ls)) ≡ (literal_is_true truth l || clause_is_true truth ls)
      by true e ih = rw (e) refl
      by false e ih = rw (e) (false_left_out l e (without_repeats ls) ∙ ih)

  pub cleaned_true : (cs : Clauses) → are_true truth (cleaned cs) ≡ are_true truth cs
  cleaned_true [] = refl
  cleaned_true (c ∷ cs) = by (is_tautology c) refl (cleaned_true cs)
    where
      by : (b : Bool) → is_tautology c ≡ b → are_true truth (cleaned cs) ≡ are_true truth cs → are_true truth (cleaned (c ∷ cs)) ≡ (clause_is_true truth c && are_true truth cs)
      by true e ih = rw (e, tautology_true c e) ih
      by false e ih = rw (e) (ap₂ (λ (p q : Bool). p && q) (without_repeats_true c) ih)
