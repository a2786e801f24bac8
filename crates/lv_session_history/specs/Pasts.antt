-- What holds of what is kept of a session's last commits, whatever lines came.
use Rattle.std.specs.Prelude.{ℕ, ◌+◌, ◌-◌, ◌≤◌, ◌*◌, ◌≡◌, nat_lt, if◌then◌else◌, List, [], ◌∷◌, length, All}
use Rattle.lv_base.specs.declared.limits.TheConstants.{PARTS, FAULT_COST, OBSERVATIONS}
use Rattle.lv_model.specs.declared.plant.Plant.{Plant}
use Rattle.lv_model.specs.declared.state.TrackedState.{TrackedState}
use Rattle.lv_model.specs.Lists.{sizes, controls}
use Rattle.lv_meaning.specs.Facts.{commanded, HasValue}
use Rattle.lv_meaning.specs.Ranges.{StateFits}
use Rattle.lv_tracker.specs.Tracked.{HasModes}
use Rattle.lv_session_request.specs.Requests.{IsSightingIn}
use Rattle.lv_session_history.specs.declared.history.Past.{Past}
use Rattle.lv_session_history.specs.declared.history.TheConstants.{HISTORY}

-- what the faults of all parts cost at most in so many steps
abbrev pub most_cost : ℕ → ℕ
most_cost time = PARTS * FAULT_COST * time

-- the state costs no more than so many steps can
pub record StateCosts (time : ℕ) (s : TrackedState) : Type 0 where
  pub most : s.cost.0 ≤ most_cost time

-- what is kept of the commit at this time: the same as of the state before it
pub record IsPastOf (plant : Plant) (time : ℕ) (p : Past) : Type 0 where
  pub controls_whole : length p.controls ≡ length (controls plant)
  pub values : All (HasValue (sizes plant)) (commanded (controls plant) p.controls)
  pub modes : All (HasModes (length plant.parts)) p.tracked
  pub fit : All (StateFits plant) p.tracked
  pub costs : All (StateCosts time) p.tracked
  pub observed : All (IsSightingIn plant) p.observed
  pub few : length p.observed ≤ OBSERVATIONS

-- of the commits from this time on
abbrev pub ArePastOf : Plant → ℕ → List Past → Type 0
ArePastOf plant time [] = Unit {0}
ArePastOf plant time (p ∷ ps) = IsPastOf plant time p × ArePastOf plant (time + 1) ps

-- of how many commits before this time something is kept
abbrev pub kept_before : ℕ → ℕ
kept_before time = if nat_lt time HISTORY then time else HISTORY

-- what is kept of the last commits before this time
pub record IsHistoryOf (plant : Plant) (time : ℕ) (history : List Past) : Type 0 where
  pub each : ArePastOf plant (time - length history) history
  pub many : length history ≡ kept_before time
