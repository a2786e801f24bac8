-- The steps of a log as lines of a block.
use Rattle.std.specs.Prelude.{◌≡◌, ◌+◌, ◌-◌, ◌++◌, ◌∷◌, ℕ, Bool, not, List, [], length, map, Some, None, Contains, slice_get, slice_index}
use Rattle.lv_base.specs.declared.ids.Lit.{Lit}
use Rattle.lv_clauses.specs.ClauseMap.{ClauseMap}
use Rattle.lv_clauses.specs.Literals.{neg}
use Rattle.lv_clauses.specs.declared.log.Hint.{Hint}
use Rattle.lv_clauses.specs.declared.log.Hint.TheVariants.{Given, Earlier}
use Rattle.lv_clauses.specs.declared.log.Step.{Step}
use Rattle.lv_clauses.specs.Following.{first_bad_step}
use Rattle.lv_cert.specs.declared.line.Literal.{Literal}
use Rattle.lv_cert_meaning.specs.Following.{numbered}
use Rattle.lv_cert_meaning.specs.Deriving.{Derived}
use Rattle.lv_cert_writing.specs.declared.derivation.Derivation.{Derivation}
use Rattle.lv_cert_writing.specs.BlockNumbers.{HaveNumbers}
use Rattle.lv_cert_writing.specs.Needed.{AreNeeded}

-- the literal by the number of its boolean, from 1
abbrev pub literal_with : Lit → Literal
literal_with l = record { negated = not l.sign; number = l.var.0 + 1 }

-- the number kept for the clause that the hint names, one of the set or one of a step
abbrev pub hint_number : List ℕ → List ℕ → Hint → ℕ
hint_number numbers placed (Given id) = slice_index numbers id.0
hint_number numbers placed (Earlier place) = slice_index placed place

abbrev pub line_of : List ℕ → List ℕ → Step → Derivation
line_of numbers placed s = record { literals = map literal_with s.clause; hints = map (hint_number numbers placed) s.hints }

-- the number kept for the clause that states an assumption of the literal's boolean
abbrev pub unit_number : List ℕ → Lit → ℕ
unit_number units l = slice_index units l.var.0

-- the step as the line of the empty clause, which first takes as true what denies its literals
abbrev pub last_line : List ℕ → List ℕ → List ℕ → Step → Derivation
last_line numbers units placed s = record { literals = []; hints = map (unit_number units) s.clause ++ map (hint_number numbers placed) s.hints }

-- what the line says
abbrev pub derived_of : Derivation → Derived
derived_of line = record { literals = line.literals; hints = line.hints }

-- each literal of the clause is denied by the clause of its negation alone, under the number kept for that
pub record IsDenied (clauses : List (List Lit)) (units : List ℕ) (c : List Lit) : Type 0 where
  pub each : (m : Lit) → Contains c m → numbered clauses (unit_number units m) ≡ Some (neg m ∷ [])

-- a valid log over the set that ends in a clause that is denied, the numbers of the set's clauses among these, and marks of the steps that
-- are needed
pub record IsRefuting (set : ClauseMap) (clauses : List (List Lit)) (numbers units : List ℕ) (log : List Step) (needed : List Bool) : Type 0 where
  pub given : HaveNumbers set.slots clauses numbers
  pub valid : first_bad_step set log ≡ None
  pub ends : (s : Step) → slice_get log (length log - 1) ≡ Some s → IsDenied clauses units s.clause
  pub marks : AreNeeded log needed 0
