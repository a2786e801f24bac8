-- One clause more of those that are copied.
use Rattle.std.proofs.Common.{◌≡◌, ◌≢◌, ◌+◌, ℕ, List, [], Option, Some, None, refl, sym, subst, ap, ◌∙◌, arith, inl, inr}
use Rattle.std.specs.Prelude.{IsSome}
use Rattle.std.proofs.lemmas.Bool.{cases_eq}
use Rattle.lv_base.specs.declared.ids.Lit.{Lit}
use Rattle.lv_clauses.specs.ClauseMap.{Slots, clause_at, IsBound}
use Rattle.lv_labels.specs.Claims.{IsPresent}
use Rattle.lv_labels.specs.Copying.{AreCopied, AreSame}

pub copied_none : (first : Slots) → AreCopied 0 first []
copied_none first = record { each = λ id c below at. absurd (omega (arith, below)); only = λ id c at. absurd (cc) }

-- a clause came at a number that had none
module _ (second new : Slots) (put : ℕ) (vacant : clause_at second put ≡ None) (others : (other : ℕ) → other ≢ put → clause_at new other ≡ clause_at second other) where
  kept : (c : List Lit) → IsPresent second c → IsPresent new c
  kept c there =
      let differs : there.number ≢ put = λ (e : there.number ≡ put). cc (ap (λ (n : ℕ). clause_at second n) e, vacant, there.at) in
      record { number = there.number; at = others there.number differs ∙ there.at }

  pub copied_one : (n : ℕ) (first : Slots) (lits : List Lit) → AreCopied n first second → clause_at first n ≡ Some lits → clause_at new put ≡ Some lits → AreCopied (n + 1) first new
  copied_one n first lits copied at placed =
      record {
        each = λ id c below there. elim (cases_eq id n) [
          | inl e ↦ record { number = put; at = placed ∙ sym at ∙ ap (λ (k : ℕ). clause_at first k) (sym e) ∙ there }
          | inr differs ↦ kept c (copied.each id c (omega (arith, below, differs)) there)
        ];
        only = λ id c there. elim (cases_eq id put) [
          | inl e ↦ record { number = n; at = at ∙ sym placed ∙ ap (λ (k : ℕ). clause_at new k) (sym e) ∙ there }
          | inr differs ↦ copied.only id c (sym (others id differs) ∙ there)
        ];
      }

pub copied_past : (n : ℕ) (first second : Slots) → AreCopied n first second → clause_at first n ≡ None → AreCopied (n + 1) first second
copied_past n first second copied vacant =
    record {
      each = λ id c below there. elim (cases_eq id n) [
        | inl e ↦ absurd (cc (ap (λ (k : ℕ). clause_at first k) e, vacant, there))
        | inr differs ↦ copied.each id c (omega (arith, below, differs)) there
      ];
      only = copied.only;
    }

is_some_of : (o : Option (List Lit)) (c : List Lit) → o ≡ Some c → IsSome o
is_some_of o c e = subst (λ (p : Option (List Lit)). IsSome p) (sym e) refl

pub copied_all : (n : ℕ) (first second : Slots) → AreCopied n first second → IsBound first n → AreSame first second
copied_all n first second copied bound =
    record {
      each = λ id c there. copied.each id c (bound.above id (is_some_of (clause_at first id) c there)) there;
      only = copied.only;
    }
