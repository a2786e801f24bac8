-- Two sets of clauses that the same values satisfy, and what changes nothing of that beside clauses.
use Rattle.std.specs.Prelude.{◌≡◌, ℕ, ◌<◌, Bool, true, IsSome, List, length, take}
use Rattle.lv_base.specs.declared.ids.Lit.{Lit}
use Rattle.lv_clauses.specs.Literals.{clause_holds}
use Rattle.lv_clauses.specs.ClauseMap.{ClauseMap, clause_at, satisfies}

-- they are over the same booleans, and values for these satisfy both or neither
pub record HaveSameModels (one other : ClauseMap) : Type 0 where
  pub bools : other.bools ≡ one.bools
  pub same : (values : List Bool) → length values ≡ one.bools → satisfies values other.slots ≡ satisfies values one.slots

-- where the clauses are true, so is this one
abbrev pub Follows : ClauseMap → List Lit → Type 0
Follows set clause = (values : List Bool) → satisfies values set.slots ≡ true → length values ≡ set.bools → clause_holds values clause ≡ true

-- the clauses of the numbers below a bound
abbrev pub front_of : ℕ → ClauseMap → ClauseMap
front_of bound set = record { bools = set.bools; slots = take bound set.slots }

-- each number below the bound is that of a clause
abbrev pub IsFilled : ℕ → ClauseMap → Type 0
IsFilled bound set = (id : ℕ) → id < bound → IsSome (clause_at set.slots id)

-- the clauses of the numbers from the bound on follow from the others, and where that is said each number below it is that of a clause
pub record HasLemmas (bound : ℕ) (is_filled : Bool) (set : ClauseMap) : Type 0 where
  pub models : HaveSameModels (front_of bound set) set
  pub filled : is_filled ≡ true → IsFilled bound set

-- clauses that follow came to numbers from the bound on
pub record AddsLemmas (bound : ℕ) (is_filled : Bool) (old new : ClauseMap) : Type 0 where
  pub models : HaveSameModels old new
  pub front : front_of bound new ≡ front_of bound old
  pub filled : is_filled ≡ true → IsFilled bound old → IsFilled bound new
