-- What a settled window of a session's last steps is, and how long windows are.
use Rattle.std.specs.Prelude.{◌≡◌, ℕ, ◌+◌, false}
use Rattle.lv_model.specs.declared.plant.Plant.{Plant}
use Rattle.lv_boxes.specs.declared.outcome.Outcome.TheVariants.{Settled}
use Rattle.lv_session_request.specs.declared.request.TheConstants.{WINDOW}
use Rattle.lv_session_history.specs.declared.history.TheConstants.{HISTORY}
use Rattle.lv_window.specs.Walk.{first_trajectories}
use Rattle.lv_system.specs.lv_compile.declared.windows.TheConstants.{WINDOW as STEPS}
use Rattle.lv_session_state.specs.State.{SessionState, window_base, window_facts, walked, tracing}

-- a settled window lists the first k trajectories that are possible; without the flag one of one step comes to what a diagnosis comes to
pub record WindowWalkIsExact : Type 0 where
  pub exact : (plant : Plant) (state : SessionState) (steps budget : ℕ) → (tracing plant state steps budget).outcome ≡ Settled
      → (tracing plant state steps budget).listed ≡ first_trajectories state.k plant (window_facts state steps) (window_base state steps)
  pub one_step : (plant : Plant) (state : SessionState) (budget : ℕ) → state.distinct ≡ false → tracing plant state 1 budget ≡ walked plant state budget

-- as many steps as can be asked for are those of the commits that are kept and the one that isn't committed, and as many the clauses of a
-- window can have
pub record WindowsAreAsLong : Type 0 where
  pub kept : WINDOW ≡ HISTORY + 1
  pub steps : WINDOW ≡ STEPS
