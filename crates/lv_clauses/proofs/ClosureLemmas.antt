-- The unit closure is the least closed set, and true under all values that satisfy clauses and assumptions.
use Rattle.std.proofs.Common.{◌≡◌, ◌≢◌, Bool, true, List, [], Contains, ap, sym, ◌∙◌, inl, inr}
use Rattle.lv_base.specs.declared.ids.Lit.{Lit}
use Rattle.lv_clauses.specs.Literals.{neg, lit_holds, clause_holds}
use Rattle.lv_clauses.specs.ClauseMap.{Slots}
use Rattle.lv_clauses.specs.Closure.{InClosure, IsContradictory, assumption, unit, both_signs, empty_clause}
use Rattle.lv_clauses.specs.Laws.{IsClosed, Satisfy}
use Rattle.lv_clauses.proofs.LiteralLemmas.{any_member, lit_or_neg, lit_cases, present_holds}

-- a literal of a true clause is true where the others are false
left_true : (values : List Bool) (c : List Lit) (l : Lit) → clause_holds values c ≡ true → ((m : Lit) → Contains c m → m ≢ l → lit_holds values (neg m) ≡ true) → lit_holds values l ≡ true
left_true values c l holds others =
    let found = any_member (lit_holds values) c holds in
    elim (lit_cases found.0 l) [
      | inl same ↦ ap (lit_holds values) (sym same) ∙ found.2
      | inr differs ↦ absurd (lit_or_neg values found.0 found.2 (others found.0 found.1 differs))
    ]

module _ {clauses : Slots} {assumed : Lit → Bool} where
  pub least : (has : Lit → Bool) → IsClosed clauses assumed has → (l : Lit) → InClosure clauses assumed l → has l ≡ true
  least has closed l (assumption a) = closed.assumptions l a
  least has closed l (unit id c at in_clause others) = closed.units id c l at in_clause (λ m has_m differs. least has closed (neg m) (others m has_m differs))

  values_closed : (values : List Bool) → Satisfy values clauses assumed → IsClosed clauses assumed (lit_holds values)
  values_closed values s =
      record {
        assumptions = s.assumptions;
        units = λ id c l at in_clause others. left_true values c l (present_holds values clauses id c s.all_clauses at) others;
      }

  pub sound : (values : List Bool) → Satisfy values clauses assumed → (l : Lit) → InClosure clauses assumed l → lit_holds values l ≡ true
  sound values s l h = least (lit_holds values) (values_closed values s) l h

  pub refuted : (values : List Bool) → IsContradictory clauses assumed → Satisfy values clauses assumed → ⊥
  refuted values (both_signs l p q) s = lit_or_neg values l (sound values s l p) (sound values s (neg l) q)
  refuted values (empty_clause id at) s =
      let holds : clause_holds values [] ≡ true = present_holds values clauses id [] s.all_clauses at in
      absurd (cc)
