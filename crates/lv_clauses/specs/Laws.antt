-- The laws of the unit closure: no smaller set is closed, and what it holds is true under all values that satisfy the
-- clauses and the assumptions.
use Rattle.std.specs.Prelude.{◌≡◌, ◌≢◌, ℕ, Bool, true, List, Some, Contains}
use Rattle.lv_base.specs.declared.ids.Lit.{Lit}
use Rattle.lv_clauses.specs.Literals.{neg, lit_holds}
use Rattle.lv_clauses.specs.ClauseMap.{Slots, clause_at, satisfies}
use Rattle.lv_clauses.specs.Closure.{InClosure, IsContradictory}

-- the set has the assumptions, and of each clause present whose other literals are negated in it the literal left
pub record IsClosed (clauses : Slots) (assumed : Lit → Bool) (has : Lit → Bool) : Type 0 where
  pub assumptions : (l : Lit) → assumed l ≡ true → has l ≡ true
  pub units : (id : ℕ) (c : List Lit) (l : Lit) → clause_at clauses id ≡ Some c → Contains c l
      → ((m : Lit) → Contains c m → m ≢ l → has (neg m) ≡ true) → has l ≡ true

-- the values satisfy the clauses and make the assumptions true
pub record Satisfy (values : List Bool) (clauses : Slots) (assumed : Lit → Bool) : Type 0 where
  pub all_clauses : satisfies values clauses ≡ true
  pub assumptions : (l : Lit) → assumed l ≡ true → lit_holds values l ≡ true

abbrev pub ClosureIsLeast : Type 0
ClosureIsLeast = (clauses : Slots) (assumed has : Lit → Bool) → IsClosed clauses assumed has
    → (l : Lit) → InClosure clauses assumed l → has l ≡ true

pub record ClosureIsSound : Type 0 where
  pub true_literals : (clauses : Slots) (assumed : Lit → Bool) (values : List Bool) → Satisfy values clauses assumed
      → (l : Lit) → InClosure clauses assumed l → lit_holds values l ≡ true
  pub refuted : (clauses : Slots) (assumed : Lit → Bool) (values : List Bool) → IsContradictory clauses assumed
      → ¬ Satisfy values clauses assumed
