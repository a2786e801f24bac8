-- What an answer tells: values that satisfy clauses and assumptions, or a refutation of the two.
use Rattle.std.specs.Prelude.{◌≡◌, ◌-◌, Bool, List, length, map, Option, Some, None, option_map, slice_get}
use Rattle.lv_base.specs.declared.ids.Lit.{Lit}
use Rattle.lv_clauses.specs.Literals.{neg}
use Rattle.lv_clauses.specs.ClauseMap.{ClauseMap}
use Rattle.lv_clauses.specs.declared.log.Step.{Step}
use Rattle.lv_clauses.specs.Following.{first_bad_step}
pub use Rattle.lv_last_values.specs.Values.{IsModel}
pub use Rattle.lv_trail.specs.Part.{IsSublist, nothing, left_out, taken}
use Rattle.lv_sat.specs.declared.answer.Answer.{Answer}
use Rattle.lv_sat.specs.declared.answer.Answer.TheVariants.{Sat, Unsat}

-- the clause of the last step
abbrev pub last_clause : List Step → Option (List Lit)
last_clause log = option_map (λ (s : Step). s.clause) (slice_get log (length log - 1))

-- a part of the assumptions, and a valid log that ends in the clause of their negations; no values satisfy the clauses
-- and make the assumptions true
pub record IsRefutation (set : ClauseMap) (assumptions core : List Lit) (log : List Step) : Type 0 where
  pub part : IsSublist core assumptions
  pub valid : first_bad_step set log ≡ None
  pub ends : last_clause log ≡ Some (map neg core)
  pub none : (values : List Bool) → ¬ IsModel set assumptions values

-- such values, and a valid log of what was learned on the way
pub record IsSatisfied (set : ClauseMap) (assumptions : List Lit) (values : List Bool) (log : List Step) : Type 0 where
  pub model : IsModel set assumptions values
  pub valid : first_bad_step set log ≡ None

abbrev pub Answers : ClauseMap → List Lit → Answer → Type 0
Answers set assumptions (Sat values log) = IsSatisfied set assumptions values log
Answers set assumptions (Unsat core log) = IsRefutation set assumptions core log
