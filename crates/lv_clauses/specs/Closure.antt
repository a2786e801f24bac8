-- The unit closure of clauses and assumptions: the least set of literals that holds the assumptions and, for each
-- clause present whose other literals are all negated in it, the literal that is left.
use Rattle.std.specs.Prelude.{◌≡◌, ◌≢◌, ℕ, Bool, true, List, [], Some, Contains}
use Rattle.lv_base.specs.declared.ids.Lit.{Lit}
use Rattle.lv_clauses.specs.Literals.{neg}
use Rattle.lv_clauses.specs.ClauseMap.{Slots, clause_at}

pub data InClosure (clauses : Slots) (assumed : Lit → Bool) : Lit → Type 0 where
  assumption : {l : Lit} → assumed l ≡ true → InClosure clauses assumed l
  unit : {l : Lit} → (id : ℕ) (c : List Lit) → clause_at clauses id ≡ Some c → Contains c l
      → ((m : Lit) → Contains c m → m ≢ l → InClosure clauses assumed (neg m)) → InClosure clauses assumed l

-- a literal and its negation are in the closure, or an empty clause is present
pub data IsContradictory (clauses : Slots) (assumed : Lit → Bool) : Type 0 where
  both_signs : (l : Lit) → InClosure clauses assumed l → InClosure clauses assumed (neg l) → IsContradictory clauses assumed
  empty_clause : (id : ℕ) → clause_at clauses id ≡ Some [] → IsContradictory clauses assumed
