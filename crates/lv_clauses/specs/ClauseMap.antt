-- The clauses present as a finite map from their numbers, and the values that satisfy them.
use Rattle.std.specs.Prelude.{◌≡◌, ◌≢◌, ℕ, ◌+◌, ◌-◌, ◌<◌, Bool, true, IsTrue, IsSome, List, [], ◌∷◌, Option, Some, None, slice_index_or}
use Rattle.std.specs.List.{list_all}
use Rattle.lv_base.specs.declared.ids.Lit.{Lit}
use Rattle.lv_base.specs.declared.ids.ClauseId.{ClauseId}
use Rattle.lv_clauses.specs.Literals.{clause_holds, is_clause}

-- a clause or nothing at each number from 0 on
abbrev pub Slots : Type 0
Slots = List (Option (List Lit))

-- clauses over so many booleans
pub record ClauseMap : Type 0 where
  pub bools : ℕ
  pub slots : Slots

-- the clause of this number, if it is present
abbrev pub clause_at : Slots → ℕ → Option (List Lit)
clause_at slots id = slice_index_or slots id None

-- the new map has this at the number, and every other number keeps what it had
pub record Puts (old new : ClauseMap) (id : ℕ) (slot : Option (List Lit)) : Type 0 where
  pub bools : new.bools ≡ old.bools
  pub changed : clause_at new.slots id ≡ slot
  pub others : (other : ℕ) → other ≢ id → clause_at new.slots other ≡ clause_at old.slots other

-- each clause present has a number below this one, and the number before it, if there is one, is that of a clause
pub record IsBound (slots : Slots) (n : ℕ) : Type 0 where
  pub above : (id : ℕ) → IsSome (clause_at slots id) → id < n
  pub least : 0 < n → IsSome (clause_at slots (n - 1))

-- each clause present is one over so many booleans
abbrev pub AreClauses : ℕ → Slots → Type 0
AreClauses bools slots = (id : ℕ) (c : List Lit) → clause_at slots id ≡ Some c → IsTrue (is_clause bools c)

-- nothing stands there, or a clause that the values make true
abbrev pub slot_holds : List Bool → Option (List Lit) → Bool
slot_holds values None = true
slot_holds values (Some c) = clause_holds values c

-- the values make each clause present true
abbrev pub satisfies : List Bool → Slots → Bool
satisfies values slots = list_all (slot_holds values) slots

-- the numbers of the clauses present, rising, where the first slot has this number
abbrev pub ids_from : ℕ → Slots → List ClauseId
ids_from first [] = []
ids_from first (None ∷ rest) = ids_from (first + 1) rest
ids_from first (Some c ∷ rest) = record { 0 = first } ∷ ids_from (first + 1) rest

abbrev pub ids_of : Slots → List ClauseId
ids_of slots = ids_from 0 slots
