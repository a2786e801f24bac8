-- What a session keeps beside its state from line to line.
use Rattle.std.specs.Prelude.{◌≡◌, Bool, false, Option, IfSome}
use Rattle.lv_model.specs.declared.plant.Plant.{Plant}
use Rattle.lv_session_state.specs.lv_session_request.declared.request.Request.{Request}
use Rattle.lv_session_state.specs.lv_session_request.declared.request.Request.TheVariants.{Diagnose, Recover, More, Test as ToTest, Window as ToWindow}
use Rattle.lv_session_state.specs.declared.running.Running.{Running}
use Rattle.lv_session.specs.declared.workings.Workings.{Workings}
use Rattle.lv_session_state.specs.State.{SessionState}
use Rattle.lv_session_state.specs.States.{IsStateOf}
use Rattle.lv_session_state.specs.Current.{IsCurrent, KeepsSolverOf, IsWorking}

-- a request that runs a query leaves what is kept of it; every other one leaves what was kept
abbrev pub IsCaredFor : Request → Plant → SessionState → Running → Running → Type 0
IsCaredFor Diagnose plant next before after = IsWorking plant next after
IsCaredFor Recover plant next before after = IsWorking plant next after
IsCaredFor (More n) plant next before after = IsWorking plant next after
IsCaredFor (ToTest x) plant next before after = IsWorking plant next after
IsCaredFor (ToWindow steps) plant next before after = IsWorking plant next after
IsCaredFor request plant next before after = after ≡ before

-- what is held to ask for labels, if anything, is of the plant
abbrev pub IsLabellerOf : Plant → Option Plant → Type 0
IsLabellerOf plant held = IfSome held (λ (of : Plant). of ≡ plant)

-- what a line finds: a state of the plant, with what is kept of its current query, a solver and a labeller of the plant
pub record IsReady (plant : Plant) (now : SessionState) (w : Workings) : Type 0 where
  pub state : IsStateOf plant now
  pub running : IsCurrent plant now w.running
  pub solver : KeepsSolverOf plant w.running
  pub labeller : IsLabellerOf plant w.labeller

-- the state is one of the plant; as long as memory sufficed, its current query is kept, and a solver that is kept is of the plant
pub record IsSession (plant : Plant) (w : Workings) (now : SessionState) (is_out_of_memory : Bool) : Type 0 where
  pub labeller_is : IsLabellerOf plant w.labeller
  pub is_state : IsStateOf plant now
  pub current : is_out_of_memory ≡ false → IsCurrent plant now w.running
  pub solver : is_out_of_memory ≡ false → KeepsSolverOf plant w.running
