-- What is told of the nominal steps from a state with some values of controls: one, or lines by which there is none.
use Rattle.std.specs.Prelude.{◌≡◌, ◌≤◌, ◌^◌, ◌++◌, Bool, true, false, List, length, map, Option, Some, None}
use Rattle.lv_base.specs.declared.ids.Lit.{Lit}
use Rattle.lv_base.specs.declared.ids.ValId.{ValId}
use Rattle.lv_base.specs.declared.search.Pair.{Pair}
use Rattle.lv_base.specs.Tree.{Tree, truth_of}
use Rattle.lv_model.specs.declared.plant.Plant.{Plant}
use Rattle.lv_model.specs.declared.state.State.{State}
use Rattle.lv_meaning.specs.Possible.{value}
use Rattle.lv_meaning.specs.declared.aim.Aim.{Aim}
use Rattle.lv_meaning.specs.Recovers.{meets_goals, can_miss}
use Rattle.lv_meaning.specs.RecoveryLaws.{NominalStep}
use Rattle.lv_system.specs.Decoding.{IsDecoded}
use Rattle.lv_system.specs.System.{SystemValue}
use Rattle.lv_system.specs.declared.step_pair.StepPair.{StepPair}
use Rattle.lv_cert_laws.specs.lv_cert_meaning.Blocks.{clauses_of}
use Rattle.lv_cert_laws.specs.lv_cert_meaning.Deriving.{Derived, refutes}
use Rattle.lv_cert_writing.specs.BlockLines.{derived_of}
use Rattle.lv_cert_writing.specs.Refuting.{MakeTrue}
use Rattle.lv_cert_laws.specs.lv_cert_meaning.Units.{goal_clauses}
use Rattle.lv_cert_recovery.specs.declared.asking.Told.{Told}
use Rattle.lv_cert_recovery.specs.declared.asking.Told.TheVariants.{Step, Lines}
use Rattle.lv_cert_recovery.specs.Showing.{IsStepFrom, AreRefuted, own_clauses, reached_clauses}

-- a step behind which all goals are true
pub record IsReaching (plant : Plant) (aim : Aim) (s : State) (pairs : List Pair) (a b : List ValId) : Type 0 where
  pub step : IsStepFrom plant aim s pairs a b
  pub goals : meets_goals aim.goals b ≡ true

-- a step behind which they aren't
pub record IsMissing (plant : Plant) (aim : Aim) (s : State) (pairs : List Pair) (a b : List ValId) : Type 0 where
  pub step : IsStepFrom plant aim s pairs a b
  pub goals : meets_goals aim.goals b ≡ false

-- lines by which none reaches all goals
abbrev pub AreUnreached : Plant → Aim → State → List Pair → List Derived → Type 0
AreUnreached plant aim s pairs ds = AreRefuted plant (own_clauses plant aim s pairs (reached_clauses plant aim)) ds

-- lines by which none misses the goal
abbrev pub AreUnmissed : Plant → Aim → State → List Pair → Tree → List Derived → Type 0
AreUnmissed plant aim s pairs goal ds = AreRefuted plant (own_clauses plant aim s pairs (goal_clauses plant false goal)) ds

-- each step ends with these goals true
pub record NeverMisses (plant : Plant) (aim : Aim) (s : State) (pairs : List Pair) (goals : List Tree) : Type 0 where
  pub each : (w : NominalStep plant aim.present s pairs) → meets_goals goals (map value w.after) ≡ true

-- values that make the clauses true together with the system's, and the step that they encode
pub record IsDecodedFrom (s : SystemValue) (own : List (List Lit)) (p : StepPair) : Type 0 where
  pub values : List Bool
  pub true_of : MakeTrue s.set own values
  pub decoded : IsDecoded s values p.now p.next p.moves

-- a step that makes the clauses true, or lines that refute them
abbrev pub IsTold : SystemValue → List (List Lit) → Told → Type 0
IsTold s own (Step p) = IsDecodedFrom s own p
IsTold s own (Lines ds) = refutes s.set.bools (clauses_of s ++ own) (map derived_of ds) ≡ true

-- this of clauses of which there aren't too many
pub record IsToldOf (s : SystemValue) (own : List (List Lit)) (t : Told) : Type 0 where
  pub told : IsTold s own t
  pub few : length own ≤ 2 ^ 64

-- a step that reaches all goals, or lines by which none does
abbrev pub TellsReached : Plant → Aim → State → List Pair → Told → Type 0
TellsReached plant aim s pairs (Step p) = IsReaching plant aim s pairs p.now p.next
TellsReached plant aim s pairs (Lines ds) = AreUnreached plant aim s pairs (map derived_of ds)

-- a step behind which the goal is false
pub record IsMissingGoal (plant : Plant) (aim : Aim) (s : State) (pairs : List Pair) (goal : Tree) (p : StepPair) : Type 0 where
  pub step : IsStepFrom plant aim s pairs p.now p.next
  pub fails : truth_of p.next 0 goal ≡ false

-- such a step, or lines by which there is none
abbrev pub TellsMissed : Plant → Aim → State → List Pair → Tree → Told → Type 0
TellsMissed plant aim s pairs goal (Step p) = IsMissingGoal plant aim s pairs goal p
TellsMissed plant aim s pairs goal (Lines ds) = AreUnmissed plant aim s pairs goal (map derived_of ds)

abbrev pub is_step : Told → Bool
is_step (Step p) = true
is_step (Lines ds) = false

abbrev pub are_lines : Told → Bool
are_lines (Step p) = false
are_lines (Lines ds) = true

-- a step that misses some goal, or there is none
abbrev pub TellsMissing : Plant → Aim → State → List Pair → Option StepPair → Type 0
TellsMissing plant aim s pairs (Some p) = IsMissing plant aim s pairs p.now p.next
TellsMissing plant aim s pairs None = can_miss plant aim s pairs ≡ false

-- if each step ends with the goals that are left true, it does so with all
pub record MissesLeft (plant : Plant) (aim : Aim) (s : State) (pairs : List Pair) (left all : List Tree) : Type 0 where
  pub on : NeverMisses plant aim s pairs left → NeverMisses plant aim s pairs all
