-- The front of the trail: assumptions, each with what it forces, and how much of it stands before each of them.
use Rattle.std.specs.Prelude.{◌≡◌, ℕ, ◌<◌, ◌≤◌, ◌++◌, ◌∷◌, [], Bool, true, false, List, length, map, take, Option, Some, None, slice_index_or}
use Rattle.std.specs.List.{list_all}
use Rattle.lv_base.specs.declared.ids.Lit.{Lit}
use Rattle.lv_clauses.specs.Literals.{lit_holds}
use Rattle.lv_clauses.specs.ClauseMap.{ClauseMap, satisfies}
use Rattle.lv_clauses.specs.Marks.{Marks}
use Rattle.lv_clauses.specs.declared.log.Step.{Step}
use Rattle.lv_clauses.specs.Following.{first_bad_step}
use Rattle.lv_trail.specs.declared.trail.Entry.{Entry}
use Rattle.lv_sat.specs.declared.front.Level.{Level}
use Rattle.lv_sat.specs.Answers.{IsSublist}
use Rattle.lv_trail.specs.Trail.{IsTrail, among, lits_of, unforced}
use Rattle.lv_trail.specs.Analysis.{IsDerived}

-- the assumptions of the levels
abbrev pub assumed : List Level → List Lit
assumed levels = map (λ (l : Level). l.lit) levels

-- the entries make the assumptions true, and have no others without a reason
pub record IsFront (assumptions : List Lit) (entries : List Entry) : Type 0 where
  pub part : IsSublist (lits_of (unforced entries)) assumptions
  pub all_true : list_all (among (lits_of entries)) assumptions ≡ true

-- so many of the entries are a front of so many assumptions
pub record IsLevel (levels : List Level) (entries : List Entry) (at place : ℕ) : Type 0 where
  pub within : place ≤ length entries
  pub front : IsFront (take at (assumed levels)) (take place entries)

-- the entries before the place of each level are a front of the assumptions before it
pub record AreLevels (levels : List Level) (entries : List Entry) : Type 0 where
  pub rising : (i j : ℕ) (d : Level) → i ≤ j → j < length levels → (slice_index_or levels i d).place ≤ (slice_index_or levels j d).place
  pub each : (at : ℕ) (d : Level) → at < length levels → IsLevel levels entries at (slice_index_or levels at d).place

-- the whole trail is a front of the levels' assumptions, by the clauses given alone
pub record IsStanding (set : ClauseMap) (levels : List Level) (marks : Marks) (entries : List Entry) : Type 0 where
  pub trail : IsTrail set [] marks entries
  pub places : AreLevels levels entries
  pub front : IsFront (assumed levels) entries

-- what a call leaves for the next one: the same, but of a trail of no entries the marks may be anything
pub record IsKept (set : ClauseMap) (levels : List Level) (marks : Marks) (entries : List Entry) : Type 0 where
  pub trail : 0 < length entries → IsTrail set [] marks entries
  pub places : AreLevels levels entries
  pub front : IsFront (assumed levels) entries

-- the log ends in a step whose clause is of negations of assumptions
pub record IsRefuted (set : ClauseMap) (assumptions : List Lit) (log : List Step) : Type 0 where
  pub earlier : List Step
  pub kept : List Entry
  pub valid : first_bad_step set earlier ≡ None
  pub derived : IsDerived set earlier log kept
  pub part : IsSublist (lits_of kept) assumptions

-- one more assumption stands, and nothing was derived, or the assumptions with it are refuted
abbrev pub Assumes : ClauseMap → List Level → Lit → List Level → List Step → Bool → Type 0
Assumes set old l new log true = (assumed new ≡ assumed old ++ l ∷ []) × (log ≡ [])
Assumes set old l new log false = IsRefuted set (assumed old ++ l ∷ []) log

-- the assumptions stand, and nothing was derived, or they are refuted
abbrev pub Stands : ClauseMap → List Lit → List Level → List Step → Bool → Type 0
Stands set assumptions levels log true = (assumed levels ≡ assumptions) × (log ≡ [])
Stands set assumptions levels log false = IsRefuted set assumptions log

-- the values satisfy the clauses and make the entries true
pub record AreValues (set : ClauseMap) (start : List Entry) (values : List Bool) : Type 0 where
  pub len : length values ≡ set.bools
  pub all_clauses : satisfies values set.slots ≡ true
  pub all_entries : (l : Lit) → among (lits_of start) l ≡ true → lit_holds values l ≡ true

-- such values, and a valid log
pub record AreFound (set : ClauseMap) (start : List Entry) (log : List Step) (values : List Bool) : Type 0 where
  pub hold : AreValues set start values
  pub valid : first_bad_step set log ≡ None

-- values, or a log whose last clause is of negations of the entries without a reason
abbrev pub Finds : ClauseMap → List Entry → List Step → Option (List Bool) → Type 0
Finds set start log None = IsRefuted set (lits_of (unforced start)) log
Finds set start log (Some values) = AreFound set start log values
