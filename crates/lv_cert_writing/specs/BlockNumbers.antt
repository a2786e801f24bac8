-- Numbers of clauses in a block, kept in lists by the places at which the clauses stand elsewhere; where a list has 0 or
-- nothing, no number is kept.
use Rattle.std.specs.Prelude.{◌≡◌, ◌≢◌, ℕ, true, List, [], ◌∷◌, Some, Contains, slice_index}
use Rattle.std.specs.List.{list_any}
use Rattle.lv_base.specs.declared.ids.Lit.{Lit}
use Rattle.lv_base.specs.declared.ids.ClauseId.{ClauseId}
use Rattle.lv_clauses.specs.ClauseMap.{Slots, clause_at}
use Rattle.lv_system.specs.Numbering.{has_number}
use Rattle.lv_system.specs.System.{SystemValue}
use Rattle.lv_cert_meaning.specs.Following.{numbered}
use Rattle.lv_cert_meaning.specs.Blocks.{clauses_of}

-- each clause of the set has, by the number kept at its place, its like among the numbered ones
pub record HaveNumbers (slots : Slots) (clauses : List (List Lit)) (numbers : List ℕ) : Type 0 where
  pub each : (id : ℕ) (c : List Lit) → clause_at slots id ≡ Some c → numbered clauses (slice_index numbers id) ≡ Some c

-- each of these literals has the clause of it alone among the numbered ones, by the number kept at the place of its boolean
pub record HaveUnits (clauses : List (List Lit)) (lits : List Lit) (units : List ℕ) : Type 0 where
  pub each : (l : Lit) → Contains lits l → numbered clauses (slice_index units l.var.0) ≡ Some (l ∷ [])

-- so have, among the clauses of the system, those at these of its places
pub record AreSystemNumbers (s : SystemValue) (ids : List ClauseId) (numbers : List ℕ) : Type 0 where
  pub each : (id : ℕ) (c : List Lit) → list_any (has_number id) ids ≡ true → clause_at s.set.slots id ≡ Some c → numbered (clauses_of s) (slice_index numbers id) ≡ Some c

-- the new list keeps at all places but this one what the old one did
pub record KeepsOthers (old new : List ℕ) (place : ℕ) : Type 0 where
  pub same : (other : ℕ) → other ≢ place → slice_index new other ≡ slice_index old other

-- the new list keeps this number at the place, and at the others what the old one did
pub record Keeps (old new : List ℕ) (place number : ℕ) : Type 0 where
  pub kept : slice_index new place ≡ number
  pub others : (other : ℕ) → other ≢ place → slice_index new other ≡ slice_index old other
