-- What a certificate of a recovery states and shows, and by which lines.
use Rattle.std.specs.Prelude.{◌≡◌, ◌+◌, ◌≤◌, ◌^◌, ℕ, true, false, List, [], ◌∷◌, ◌++◌, length, map}
use Rattle.std.specs.List.{flat_map}
use Rattle.lv_base.specs.declared.ids.ValId.{ValId}
use Rattle.lv_base.specs.declared.search.Pair.{Pair}
use Rattle.lv_model.specs.declared.plant.Plant.{Plant}
use Rattle.lv_model.specs.declared.state.State.{State}
use Rattle.lv_meaning.specs.Possible.{value}
use Rattle.lv_meaning.specs.declared.aim.Aim.{Aim}
use Rattle.lv_meaning.specs.RecoveryLaws.{NominalStep}
use Rattle.lv_search_zones.specs.lv_compile.Booleans.{booleans_now, bool_count}
use Rattle.lv_search_zones.specs.lv_compile.FormulaClauses.{Clauses}
use Rattle.lv_search_zones.specs.lv_compile.ModelClauses.{model_clauses}
use Rattle.lv_cert_laws.specs.lv_cert_meaning.Deriving.{Derived, refutes}
use Rattle.lv_cert.specs.declared.line.Question.TheVariants.{Recovery}
use Rattle.lv_cert.specs.declared.line.Moment.TheVariants.{Now}
use Rattle.lv_cert.specs.declared.line.Head.TheVariants as head
use Rattle.lv_cert.specs.declared.line.Line.{Line}
use Rattle.lv_cert.specs.declared.line.Line.TheVariants as line
use Rattle.lv_cert_laws.specs.lv_cert_meaning.Stated.{Stated, observed_literal}
use Rattle.lv_cert_laws.specs.lv_cert_meaning.Units.{nominal_units, goal_clauses}
use Rattle.lv_cert_writing.specs.Lines.{numbers_of, state_lines, fact_lines, values_line, pair_numbers, clause_lines}

-- what is stated of what a recovery is asked
abbrev pub stated_by : Plant → Aim → Stated
stated_by plant aim =
    record {
      k = 1;
      distinct = false;
      tracked = aim.tracked;
      facts = record { controls = []; present = aim.present; next = [] };
      literals = map (observed_literal (booleans_now plant)) aim.present;
      goals = aim.goals;
    }

abbrev pub goal_line : List ℕ → Line
goal_line text = line.Goal text

abbrev pub goal_lines : List (List ℕ) → List Line
goal_lines texts = map goal_line texts

-- the lines that state the question, whose goals have these texts
abbrev pub head_lines : Plant → Aim → List (List ℕ) → List Line
head_lines plant aim texts = line.Certificate Recovery ∷ line.Model plant.name ∷ (state_lines aim.tracked ++ (fact_lines Now aim.present ++ goal_lines texts))

abbrev pub recovery_line : List ℕ → Line
recovery_line values = line.Numbers head.Recovery (numbers_of values)

-- values before and after a step
abbrev pub step_lines : List ValId → List ValId → List Line
step_lines a b = values_line head.Now a ∷ values_line head.Next b ∷ []

-- that from the state of this place there is a step under the recovery
abbrev pub good_lines : ℕ → List ValId → List ValId → List Line
good_lines place a b = line.Numbers head.Good ((place + 1) ∷ []) ∷ step_lines a b

-- that from the state of this place it can't miss the goal of that place
abbrev pub proof_lines : ℕ → ℕ → List Derived → List Line
proof_lines place goal ds = line.Numbers head.Proof ((place + 1) ∷ ((goal + 1) ∷ [])) ∷ clause_lines ds

-- that no step from the state of this place has these values of controls and reaches the goals
abbrev pub conflict_lines : ℕ → List Pair → List Derived → List Line
conflict_lines place pairs ds = line.Numbers head.Conflict ((place + 1) ∷ pair_numbers pairs) ∷ clause_lines ds

-- that from the state of this place a step with these values of all controls misses a goal
abbrev pub counter_lines : ℕ → List ℕ → List ValId → List ValId → List Line
counter_lines place values a b = line.Numbers head.Counter ((place + 1) ∷ numbers_of values) ∷ step_lines a b

-- the values before and after a nominal step from the state, with these values of controls, that meets what is seen
pub record IsStepFrom (plant : Plant) (aim : Aim) (s : State) (pairs : List Pair) (a b : List ValId) : Type 0 where
  pub step : NominalStep plant aim.present s pairs
  pub begins : map value step.before ≡ a
  pub ends : map value step.after ≡ b

-- what a block states behind the clauses of a nominal step from the state with these values of controls
abbrev pub own_clauses : Plant → Aim → State → List Pair → Clauses → Clauses
own_clauses plant aim s pairs more = nominal_units plant s.modes (stated_by plant aim).literals pairs ++ more

-- that all goals are true behind the step
abbrev pub reached_clauses : Plant → Aim → Clauses
reached_clauses plant aim = flat_map (goal_clauses plant true) aim.goals

-- the lines refute these clauses together with the model's, of which there aren't too many
pub record AreRefuted (plant : Plant) (own : Clauses) (ds : List Derived) : Type 0 where
  pub refuted : refutes (bool_count plant) (model_clauses plant ++ own) ds ≡ true
  pub few : length (model_clauses plant ++ own) ≤ 2 ^ 65
