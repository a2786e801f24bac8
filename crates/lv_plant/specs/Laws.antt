-- What holds of a plant and of what its session tracks, whatever lines came.
use Rattle.std.specs.Prelude.{◌≡◌, ◌≢◌, ◌≤◌, ℕ, true, false, List, [], ◌∷◌, map, length, Some, None, Contains, slice_get}
use Rattle.lv_base.specs.declared.rank.Rank.{Rank}
use Rattle.lv_base.specs.declared.ids.MoveId.{MoveId}
use Rattle.lv_model.specs.declared.plant.Plant.{Plant}
use Rattle.lv_model.specs.declared.state.TrackedState.{TrackedState}
use Rattle.lv_meaning.specs.Possible.{value, move_number}
use Rattle.lv_reply.specs.declared.reply.Reply.TheVariants.{Settled}
use Rattle.lv_plant_step.specs.declared.asked.PlantStep.{PlantStep}
use Rattle.lv_plant_step.specs.PlantSteps.{plant_step}
use Rattle.lv_plant_step.specs.Laws.{IsPlantStep}
use Rattle.lv_session.specs.lv_session_state.declared.query.Query.TheVariants.{Recovery}
use Rattle.lv_session.specs.lv_session_state.State.{SessionState}
use Rattle.lv_session.specs.Applying.{recovery_at}
use Rattle.lv_plant.specs.declared.fault.PlantFault.{PlantFault}
use Rattle.lv_plant.specs.declared.fault.PlantFault.TheVariants.{NoRecovery}
use Rattle.lv_plant.specs.declared.reply.PlantReply.TheVariants.{Refused, Moved}
use Rattle.lv_plant.specs.declared.reply.StepTold.{StepTold}
use Rattle.lv_plant.specs.declared.reply.GoalsTold.TheVariants.{Met}
use Rattle.lv_plant.specs.Forms as forms
use Rattle.lv_plant.specs.Findings.{is_held}
use Rattle.lv_plant.specs.Standing.{Standing, at_start, no_faults, asked_of, is_over, apply, done}
use Rattle.lv_plant.specs.Answering.{next_at}

-- where a recovery is the current query some goal is held
abbrev pub Aims : SessionState → Type 0
Aims state = (sum : ℕ) → state.query ≡ Recovery sum → 1 ≤ length state.goals

-- the session hasn't ended, lists at least one candidate, and has committed no more often than the plant made steps; nothing is observed
-- of a step to come unless the plant is halted; and a recovery is for some goal
pub record IsRunning (s : Standing) : Type 0 where
  pub goes_on : s.session.state.is_ended ≡ false
  pub lists : 1 ≤ s.session.state.k
  pub commits : s.session.state.time ≤ s.time
  pub clear : s.is_halted ≡ false → s.session.state.next ≡ []
  pub aims : Aims s.session.state

-- a plant is so at its start, and stays so whatever line comes
pub record PlantRunsOn : Type 0 where
  pub start : (plant : Plant) → IsRunning (at_start plant)
  pub line : (s : Standing) (line : List ℕ) → IsRunning s → IsRunning (done s line).next

-- at a line that asks for a step the plant takes this one, and this is told of it
pub record Takes (s : Standing) (line : List ℕ) (taken : PlantStep) (told : StepTold) : Type 0 where
  pub asks : forms.asked_by line ≡ forms.step
  pub is : plant_step s.session.plant (asked_of s) ≡ Some taken
  pub tells : (done s line).reply ≡ Moved told

-- a listed candidate that goes on from a state with the plant's modes by the plant's moves
pub record IsOwn (s : Standing) (moves : List MoveId) (ranks : List Rank) : Type 0 where
  pub rank : Rank
  pub state : TrackedState
  pub listed : Contains ranks rank
  pub source : slice_get s.session.state.tracked rank.source ≡ Some state
  pub modes : state.state.modes ≡ s.modes
  pub choices : map move_number rank.choices ≡ moves

-- where the tracked states had the plant's modes, and the plant's own moves from there are among what a settled diagnosis lists, the tracked
-- states have them after the step; the plant is halted only where the diagnosis isn't settled or its modes weren't tracked
pub record PlantIsFollowed : Type 0 where
  pub stays_held : (s : Standing) (line : List ℕ) (taken : PlantStep) (told : StepTold) (listed : List Rank) → IsRunning s → Takes s line taken told
      → told.diagnosis ≡ Settled listed → (by : IsPlantStep s.session.plant (asked_of s) taken) → IsOwn s by.moves listed → told.is_held ≡ true
  pub halts : (s : Standing) (line : List ℕ) (taken : PlantStep) (told : StepTold) → IsRunning s → Takes s line taken told → told.commit ≡ None
      → is_held s.modes s.session.state.tracked ≡ true → (listed : List Rank) → told.diagnosis ≢ Settled listed

-- where lines lead to, one after another
abbrev pub after : Standing → List (List ℕ) → Standing
after s [] = s
after s (line ∷ lines) = after (next_at s line) lines

-- none of the lines asks for a step
abbrev pub AskNoStep : List (List ℕ) → Type 0
AskNoStep [] = Unit {0}
AskNoStep (line ∷ lines) = (forms.asked_by line ≢ forms.step) × AskNoStep lines

-- the recovery that was found was applied, and since then these lines came; the controls are as it commands them, the goals are those that it
-- was asked for with, no fault is named, the tracked states have the plant's modes, and a step may be made
pub record IsBehind (before : Standing) (u : List ℕ) (lines : List (List ℕ)) (s : Standing) : Type 0 where
  pub found : recovery_at before.session ≡ Some u
  pub no_step : AskNoStep lines
  pub leads : after (apply before).next lines ≡ s
  pub controls : s.session.state.controls ≡ map value u
  pub goals : s.session.state.goals ≡ before.session.state.goals
  pub no_fault : s.faults ≡ no_faults s.session.plant
  pub held : is_held s.modes s.session.state.tracked ≡ true
  pub goes_on : is_over s ≡ false

-- a line that asks for a step is told of one that meets the goals
pub record MeetsGoals (s : Standing) (line : List ℕ) : Type 0 where
  pub told : StepTold
  pub tells : (done s line).reply ≡ Moved told
  pub goals : told.goals ≡ Met

-- behind a recovery the next step comes, and meets the goals
abbrev pub RecoveryIsFollowed : Type 0
RecoveryIsFollowed = (before : Standing) (u : List ℕ) (lines : List (List ℕ)) (s : Standing) (line : List ℕ) → IsRunning before → IsBehind before u lines s
    → forms.asked_by line ≡ forms.step → MeetsGoals s line

-- a line that the plant refuses changes nothing
abbrev pub RefusalChangesNothing : Type 0
RefusalChangesNothing = (s : Standing) (line : List ℕ) (fault : PlantFault) → (done s line).reply ≡ Refused fault → (done s line).next ≡ s

-- at its start a plant has no recovery to apply
abbrev pub FreshPlantHasNoRecovery : Type 0
FreshPlantHasNoRecovery = (plant : Plant) (line : List ℕ) → forms.asked_by line ≡ forms.apply → (done (at_start plant) line).reply ≡ Refused NoRecovery
