-- What a search keeps and where it ends.
use Rattle.std.specs.Prelude.{◌≡◌, ◌++◌, true, List, length, take, drop, None}
use Rattle.lv_clauses.specs.ClauseMap.{ClauseMap, satisfies}
use Rattle.lv_clauses.specs.Marks.{Marks}
use Rattle.lv_clauses.specs.declared.log.Step.{Step}
use Rattle.lv_clauses.specs.Following.{first_bad_step}
use Rattle.lv_last_values.specs.Values.{KeepMarks}
use Rattle.lv_trail.specs.declared.trail.Entry.{Entry}
use Rattle.lv_trail.specs.Trail.{lits_of, IsFalse, IsTrail}
use Rattle.lv_sat.specs.declared.search.Reached.{Reached}
use Rattle.lv_sat.specs.declared.search.Reached.TheVariants.{Values, False}

-- a trail that begins with the entries it started from, and a valid log
pub record IsSearch (set : ClauseMap) (start : List Entry) (log : List Step) (marks : Marks) (entries : List Entry) : Type 0 where
  pub trail : IsTrail set log marks entries
  pub begins : take (length start) entries ≡ start
  pub valid : first_bad_step set log ≡ None

-- and what it leaves: such a trail, with some log
pub record IsGrown (set : ClauseMap) (start : List Entry) (marks : Marks) (entries : List Entry) : Type 0 where
  pub log : List Step
  pub trail : IsTrail set log marks entries
  pub begins : take (length start) entries ≡ start

-- either the marks are values that satisfy the clauses, or a clause is false
abbrev pub Reaches : ClauseMap → List Step → Marks → List Entry → Reached → Type 0
Reaches set log marks entries (Values values) = KeepMarks marks values × (satisfies values set.slots ≡ true)
Reaches set log marks entries (False h) = IsFalse set.slots log (lits_of entries) h

-- the trail goes on from the old entries, to such an end
pub record IsReached (set : ClauseMap) (log : List Step) (old : List Entry) (marks : Marks) (entries : List Entry) (reached : Reached) : Type 0 where
  pub trail : IsTrail set log marks entries
  pub front : entries ≡ old ++ drop (length old) entries
  pub reaches : Reaches set log marks entries reached
