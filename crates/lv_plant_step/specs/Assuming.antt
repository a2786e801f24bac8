-- Literals that are assumed together, and what they say of truth values.
use Rattle.std.specs.Prelude.{◌≡◌, ℕ, Bool, true, not, ◌&&◌, List, length, Option, Some, None, is_some, slice_index_or}
use Rattle.std.specs.List.{list_all, list_any}
use Rattle.lv_base.specs.declared.ids.Lit.{Lit}
use Rattle.lv_clauses.specs.Literals.{is_clause, in_range, lit_holds}
use Rattle.lv_clauses.specs.ClauseMap.{ClauseMap, satisfies}
use Rattle.lv_clauses.specs.Marks.{Marks, is_marked}
use Rattle.lv_clauses.specs.Noted.{is_of}

-- so many booleans, the literals, and whether one was to be assumed whose negation is
pub record Assumption : Type 0 where
  pub bools : ℕ
  pub lits : List Lit
  pub has_clash : Bool

-- the truth values are as assumed
abbrev pub holds : List Bool → Assumption → Bool
holds values s = not s.has_clash && list_all (lit_holds values) s.lits

-- the literals are of distinct booleans, those are marked that stand there, and of no other boolean is there a mark
pub record AreMarked (lits : List Lit) (marks : Marks) : Type 0 where
  pub clause : is_clause (length marks) lits ≡ true
  pub each : (l : Lit) → is_marked marks l ≡ true → (test : Lit → Bool) → list_all test lits ≡ true → test l ≡ true
  pub others : (n : ℕ) → is_some (slice_index_or marks n None) ≡ list_any (is_of n) lits

-- the literal is of one of so many booleans
pub record IsLit (bools : ℕ) (l : Lit) : Type 0 where
  pub below : in_range bools l ≡ true

-- the new assumption says what the old one says and this
pub record SaysMore (old new : Assumption) (more : List Bool → Bool) : Type 0 where
  pub bools : new.bools ≡ old.bools
  pub says : (values : List Bool) → holds values new ≡ (holds values old && more values)

-- a value for each boolean; they satisfy the clauses, and are as assumed
pub record IsSolution (set : ClauseMap) (s : Assumption) (values : List Bool) : Type 0 where
  pub whole : length values ≡ set.bools
  pub satisfied : satisfies values set.slots ≡ true
  pub assumed : holds values s ≡ true

-- a solution, or that there is none
abbrev pub Tells : ClauseMap → Assumption → Option (List Bool) → Type 0
Tells set s (Some values) = IsSolution set s values
Tells set s None = (values : List Bool) → ¬ IsSolution set s values
