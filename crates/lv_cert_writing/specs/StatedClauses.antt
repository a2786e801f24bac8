-- What a block states beside the clauses of a system, put to a solver that serves all blocks: some of it is assumed, and
-- the rest added.
use Rattle.std.specs.Prelude.{◌≡◌, ◌≢◌, ℕ, Bool, true, false, List, ◌++◌, length, Some, None, Contains, slice_index}
use Rattle.std.specs.List.{list_all, list_any}
use Rattle.lv_base.specs.declared.ids.Lit.{Lit}
use Rattle.lv_base.specs.declared.ids.ClauseId.{ClauseId}
use Rattle.lv_clauses.specs.Literals.{lit_holds, clause_holds, is_clause}
use Rattle.lv_clauses.specs.ClauseMap.{ClauseMap, clause_at, Puts, satisfies}
use Rattle.lv_system.specs.Numbering.{has_number}
use Rattle.lv_system.specs.System.{SystemValue}
use Rattle.lv_cert_writing.specs.BlockNumbers.{HaveNumbers, HaveUnits, AreSystemNumbers, Keeps}

-- the set has the system's clauses, and others only at the places that were added, at which the system has none; of the
-- system's clauses the numbers are kept
pub record IsShared (s : SystemValue) (set : ClauseMap) (added : List ClauseId) (numbers : List ℕ) : Type 0 where
  pub bools : set.bools ≡ s.set.bools
  pub only : (id : ℕ) → list_any (has_number id) added ≡ false → clause_at set.slots id ≡ clause_at s.set.slots id
  pub apart : (id : ℕ) → list_any (has_number id) added ≡ true → clause_at s.set.slots id ≡ None
  pub kept : AreSystemNumbers s s.ids numbers

-- a clause is added at a place that was free, and its number kept there
pub record AddsOne (old new : ClauseMap) (kept numbers : List ℕ) (c : List Lit) (number : ℕ) : Type 0 where
  pub id : ℕ
  pub vacant : clause_at old.slots id ≡ None
  pub puts : Puts old new id (Some c)
  pub keeps : Keeps kept numbers id number

-- clauses that a block states behind so many of a system are put to the first set: those of the literals assumed are given
-- by these alone, and the others by the set that it became; each has its number, under its boolean or at its place
pub record AreStated (first : ClauseMap) (kept : List ℕ) (models : ℕ) (own : List (List Lit)) (set : ClauseMap) (numbers : List ℕ) (assumed : List Lit) (units : List ℕ) : Type 0 where
  pub bools : set.bools ≡ first.bools
  pub hold : (values : List Bool) → satisfies values set.slots ≡ true → list_all (lit_holds values) assumed ≡ true → list_all (clause_holds values) own ≡ true
  pub clause : is_clause set.bools assumed ≡ true
  pub whole : length units ≡ set.bools
  pub taken : (l : Lit) → Contains assumed l → slice_index units l.var.0 ≢ 0
  pub numbered_are : (clauses : List (List Lit)) → length clauses ≡ models → HaveNumbers first.slots clauses kept → HaveNumbers set.slots (clauses ++ own) numbers
  pub units_are : (clauses : List (List Lit)) → length clauses ≡ models → HaveUnits (clauses ++ own) assumed units
