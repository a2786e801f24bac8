-- Clauses that are kept in a set, each under a number of its own.
use Rattle.std.specs.Prelude.{◌≡◌, ℕ, Bool, true, nat_eq, IsTrue, IsSome, List, map, Option, Some}
use Rattle.std.specs.List.{list_any, IsDistinct}
use Rattle.lv_base.specs.declared.ids.Lit.{Lit}
use Rattle.lv_base.specs.declared.ids.ClauseId.{ClauseId}
use Rattle.lv_clauses.specs.Literals.{is_clause}
use Rattle.lv_clauses.specs.ClauseMap.{Slots, clause_at}
use Rattle.lv_compile.specs.FormulaClauses.{Clauses}

abbrev pub clause_of : Slots → ClauseId → Option (List Lit)
clause_of slots id = clause_at slots id.0

abbrev pub same_number : ClauseId → ClauseId → Bool
same_number one other = nat_eq one.0 other.0

abbrev pub has_number : ℕ → ClauseId → Bool
has_number n id = nat_eq id.0 n

-- the numbers are those of the clauses, in order: each clause is present under its number, and no number stands twice; no
-- other clause is present
pub record AreNumbered (clauses : Clauses) (slots : Slots) (ids : List ClauseId) : Type 0 where
  pub each : map (clause_of slots) ids ≡ map Some clauses
  pub once : IsDistinct same_number ids
  pub all : (n : ℕ) → IsSome (clause_at slots n) → list_any (has_number n) ids ≡ true

-- a clause over so many booleans, as the code hands this on
pub record IsOver (bools : ℕ) (c : List Lit) : Type 0 where
  pub clause : IsTrue (is_clause bools c)

-- a clause has this number
pub record IsPresent (slots : Slots) (id : ClauseId) : Type 0 where
  pub present : IsSome (clause_of slots id)
