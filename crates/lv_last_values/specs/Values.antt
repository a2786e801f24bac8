-- Values of all booleans: whether they satisfy clauses, keep marks, or make a clause false.
use Rattle.std.specs.Prelude.{◌≡◌, ℕ, Bool, true, false, List, length, Some}
use Rattle.std.specs.List.{list_all}
use Rattle.lv_base.specs.declared.ids.Lit.{Lit}
use Rattle.lv_clauses.specs.Literals.{is_clause, lit_holds, clause_holds}
use Rattle.lv_clauses.specs.ClauseMap.{ClauseMap, clause_at, slot_holds, satisfies}
use Rattle.lv_clauses.specs.Marks.{Marks, is_marked}

-- a value for each boolean; they satisfy the clauses and make the assumptions true
pub record IsModel (set : ClauseMap) (assumptions : List Lit) (values : List Bool) : Type 0 where
  pub len : length values ≡ set.bools
  pub all_clauses : satisfies values set.slots ≡ true
  pub all_assumptions : list_all (lit_holds values) assumptions ≡ true

-- values of all booleans, each as it is marked where it is
pub record KeepMarks (marks : Marks) (values : List Bool) : Type 0 where
  pub len : length values ≡ length marks
  pub marked : (l : Lit) → is_marked marks l ≡ true → lit_holds values l ≡ true

-- the clause of this number is over the booleans, and the values make it false
pub record IsFalsified (set : ClauseMap) (values : List Bool) (id : ℕ) : Type 0 where
  pub clause : List Lit
  pub present : clause_at set.slots id ≡ Some clause
  pub range : is_clause set.bools clause ≡ true
  pub turned_all : clause_holds values clause ≡ false

-- the clause of this number is false, or there is none, or it is true
abbrev pub TellsFalse : ClauseMap → List Bool → ℕ → Bool → Type 0
TellsFalse set values id true = IsFalsified set values id
TellsFalse set values id false = slot_holds values (clause_at set.slots id) ≡ true
