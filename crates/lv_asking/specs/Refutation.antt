-- Whether clauses and literals can be true together, and which of the literals already can't.
use Rattle.std.specs.Prelude.{Bool, List, ◌++◌, ◌-◌, length, drop, filter, Option, Some, None}
use Rattle.lv_base.specs.declared.ids.Lit.{Lit}
use Rattle.lv_clauses.specs.ClauseMap.{ClauseMap}
use Rattle.lv_clauses.specs.Marks.{Marks, is_marked}
use Rattle.lv_sat.specs.Answers.{IsModel}
use Rattle.lv_asking.specs.declared.refutation.TheConstants.{KEPT}
use Rattle.lv_asking.specs.declared.refutation.Found.{Found}
use Rattle.lv_asking.specs.declared.refutation.Found.TheVariants.{Values, Core}

-- some values satisfy the clauses and make the literals true
pub record HasModel (set : ClauseMap) (lits : List Lit) : Type 0 where
  pub values : List Bool
  pub model : IsModel set lits values

-- no values do
abbrev pub HasNoModel : ClauseMap → List Lit → Type 0
HasNoModel set lits = (values : List Bool) → ¬ IsModel set lits values

abbrev pub marked_literals : Marks → List Lit → List Lit
marked_literals marks lits = filter (is_marked marks) lits

-- without marks the chosen and the assumed literals can be true together; with marks the assumed ones can't with those of the chosen
-- that are marked
abbrev pub Refutes : ClauseMap → List Lit → List Lit → Option Marks → Type 0
Refutes set chosen assumed None = HasModel set (chosen ++ assumed)
Refutes set chosen assumed (Some marks) = HasNoModel set (marked_literals marks chosen ++ assumed)

-- values that satisfy the clauses and make the chosen and the assumed literals true; or the assumed ones can't be true with those of the
-- chosen that are marked
abbrev pub Tells : ClauseMap → List Lit → List Lit → Found → Type 0
Tells set chosen assumed (Values values) = IsModel set (chosen ++ assumed) values
Tells set chosen assumed (Core marks) = HasNoModel set (marked_literals marks chosen ++ assumed)

-- the last ones, as many as are kept
abbrev pub latest : List (List Bool) → List (List Bool)
latest solutions = drop (length solutions - KEPT) solutions
