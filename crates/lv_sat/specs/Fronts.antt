-- The front of a solver, between calls and within one.
use Rattle.std.specs.Prelude.{List, IsTrue}
use Rattle.lv_base.specs.declared.ids.Lit.{Lit}
use Rattle.lv_clauses.specs.Literals.{is_clause}
use Rattle.lv_clauses.specs.ClauseMap.{ClauseMap}
use Rattle.lv_last_values.specs.declared.last_values.LastValues.{LastValues}
use Rattle.lv_last_values.specs.Occurrences.{IsUpToDate}
use Rattle.lv_sat.specs.declared.front.Front.{Front}
use Rattle.lv_sat.specs.Front.{IsKept, IsStanding}

-- it is what a call leaves for the next one
abbrev pub FrontIsKept : ClauseMap → Front → Type 0
FrontIsKept set front = IsKept set front.levels.items front.search.trail.marks.items front.search.trail.entries.items

-- all of its trail stands
abbrev pub FrontStands : ClauseMap → Front → Type 0
FrontStands set front = IsStanding set front.levels.items front.search.trail.marks.items front.search.trail.entries.items

-- assumptions that are asked of it, beside the last values
pub record IsAsked (set : ClauseMap) (last : LastValues) (assumptions : List Lit) (front : Front) : Type 0 where
  pub clause : IsTrue (is_clause set.bools assumptions)
  pub kept : FrontIsKept set front
  pub last_is : IsUpToDate set last.values last.occurrences
