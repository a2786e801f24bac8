-- The clauses of the two small plants, computed. Booleans and places count from 0.
use Rattle.std.specs.Prelude.{◌≡◌, ℕ, true, false, [], ◌∷◌, length, Some, slice_get}
use Rattle.lv_base.specs.declared.ids.Lit.{Lit}
use Rattle.lv_compile.specs.Booleans.{literal, bool_count}
use Rattle.lv_compile.specs.FormulaClauses.{Clauses}
use Rattle.lv_compile.specs.ModelClauses.{model_clauses}
use Rattle.lv_compile.specs.Valve.{valve, two_steps}

abbrev pub holds : ℕ → Lit
holds n = literal n true

abbrev pub fails : ℕ → Lit
fails n = literal n false

-- the valve's: mode, command, inflow, outflow before and after, ten choices
pub record ValveClauses : Type 0 where
  pub bools : bool_count valve ≡ 32
  pub total : length (model_clauses valve) ≡ 114
  pub one_inflow_after : slice_get (model_clauses valve) 34 ≡ Some (fails 18 ∷ fails 19 ∷ [])
  pub open_lets_flow_after : slice_get (model_clauses valve) 38 ≡ Some (fails 12 ∷ fails 20 ∷ holds 18 ∷ [])
  pub stuck_open_lets_flow_after : slice_get (model_clauses valve) 41 ≡ Some (fails 14 ∷ fails 20 ∷ holds 18 ∷ [])
  pub flows_in_after : slice_get (model_clauses valve) 43 ≡ Some (holds 19 ∷ [])
  pub step_opens : slice_get (model_clauses valve) 91 ≡ Some (fails 22 ∷ holds 12 ∷ [])
  pub stay_without_command : slice_get (model_clauses valve) 95 ≡ Some (fails 23 ∷ fails 5 ∷ [])
  pub fault_sticks : slice_get (model_clauses valve) 99 ≡ Some (fails 25 ∷ holds 14 ∷ [])

-- those of the plant with two open steps: each copy's three modes, then its five moves
abbrev pub two_steps_clauses : Clauses
two_steps_clauses =
    (holds 0 ∷ holds 1 ∷ holds 2 ∷ [])
    ∷ (fails 0 ∷ fails 1 ∷ [])
    ∷ (fails 0 ∷ fails 2 ∷ [])
    ∷ (fails 1 ∷ fails 2 ∷ [])
    ∷ (holds 3 ∷ holds 4 ∷ holds 5 ∷ [])
    ∷ (fails 3 ∷ fails 4 ∷ [])
    ∷ (fails 3 ∷ fails 5 ∷ [])
    ∷ (fails 4 ∷ fails 5 ∷ [])
    ∷ (holds 6 ∷ holds 7 ∷ holds 8 ∷ holds 9 ∷ holds 10 ∷ [])
    ∷ (fails 6 ∷ fails 7 ∷ [])
    ∷ (fails 6 ∷ fails 8 ∷ [])
    ∷ (fails 6 ∷ fails 9 ∷ [])
    ∷ (fails 6 ∷ fails 10 ∷ [])
    ∷ (fails 7 ∷ fails 8 ∷ [])
    ∷ (fails 7 ∷ fails 9 ∷ [])
    ∷ (fails 7 ∷ fails 10 ∷ [])
    ∷ (fails 8 ∷ fails 9 ∷ [])
    ∷ (fails 8 ∷ fails 10 ∷ [])
    ∷ (fails 9 ∷ fails 10 ∷ [])
    ∷ (fails 6 ∷ holds 0 ∷ [])
    ∷ (fails 6 ∷ holds 4 ∷ [])
    ∷ (fails 7 ∷ holds 0 ∷ [])
    ∷ (fails 7 ∷ holds 5 ∷ [])
    ∷ (fails 7 ∷ [])
    ∷ (fails 8 ∷ holds 0 ∷ [])
    ∷ (fails 8 ∷ holds 3 ∷ [])
    ∷ (fails 8 ∷ [])
    ∷ (fails 8 ∷ [])
    ∷ (fails 9 ∷ holds 1 ∷ [])
    ∷ (fails 9 ∷ holds 4 ∷ [])
    ∷ (fails 10 ∷ holds 2 ∷ [])
    ∷ (fails 10 ∷ holds 5 ∷ [])
    ∷ []

pub record TwoStepsClauses : Type 0 where
  pub bools : bool_count two_steps ≡ 11
  pub all : model_clauses two_steps ≡ two_steps_clauses
