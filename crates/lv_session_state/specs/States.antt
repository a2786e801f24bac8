-- What holds of the state of a session over a plant, whatever lines came.
use Rattle.std.specs.Prelude.{ℕ, ◌+◌, ◌≤◌, ◌≡◌, List, length, All}
use Rattle.lv_base.specs.declared.limits.TheConstants.{TRACKED, COMMITS, OBSERVATIONS, GOALS}
use Rattle.lv_base.specs.declared.rank.Rank.{Rank}
use Rattle.lv_model.specs.declared.plant.Plant.{Plant}
use Rattle.lv_model.specs.Lists.{sizes, controls}
use Rattle.lv_meaning.specs.Facts.{commanded, HasValue}
use Rattle.lv_tracker.specs.Targets.{HasMoves}
use Rattle.lv_tracker.specs.Tracked.{HasModes}
use Rattle.lv_meaning.specs.Ranges.{StateFits}
use Rattle.lv_session_request.specs.Forms.{IsUpTo}
use Rattle.lv_session_request.specs.Goals.{IsGoalIn}
use Rattle.lv_session_request.specs.Requests.{IsSightingIn}
use Rattle.lv_session_history.specs.Pasts.{most_cost, StateCosts, IsHistoryOf}
use Rattle.lv_session_state.specs.State.{SessionState}

-- the candidate costs no more than so many steps can
pub record RankCosts (time : ℕ) (r : Rank) : Type 0 where
  pub most : r.cost.0 ≤ most_cost time

-- there is a value for each control, which the control has, and a mode for each part in each tracked state, which the part's type has;
-- a tracked state costs no more than the steps so far can; what was observed are values that observables have; the goals are formulas
-- over the plant, with their texts; what is kept of the last commits is the same; k, the number of commits, that of observations and that of goals are within their limits
pub record IsStateOf (plant : Plant) (state : SessionState) : Type 0 where
  pub controls_whole : length state.controls ≡ length (controls plant)
  pub values : All (HasValue (sizes plant)) (commanded (controls plant) state.controls)
  pub modes : All (HasModes (length plant.parts)) state.tracked
  pub fit : All (StateFits plant) state.tracked
  pub costs : All (StateCosts state.time) state.tracked
  pub time : state.time ≤ COMMITS
  pub k : IsUpTo TRACKED state.k
  pub present : All (IsSightingIn plant) state.present
  pub next : All (IsSightingIn plant) state.next
  pub held : length state.present + length state.next ≤ OBSERVATIONS
  pub history : IsHistoryOf plant state.time state.history
  pub goals : All (IsGoalIn plant) state.goals
  pub few_goals : length state.goals ≤ GOALS

-- what a walk lists in the state: few candidates, each with a move for every part, and none dearer than one more step can make it
pub record IsListOf (plant : Plant) (state : SessionState) (listed : List Rank) : Type 0 where
  pub few : length listed ≤ TRACKED
  pub moves : All (HasMoves (length plant.parts)) listed
  pub costs : All (RankCosts (state.time + 1)) listed
