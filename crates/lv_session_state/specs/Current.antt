-- The current query, and what is kept of it from line to line.
use Rattle.std.specs.Prelude.{◌≡◌, ◌≤◌, None, ℕ, Bool, List, [], length, IfSome}
use Rattle.lv_base.specs.declared.ids.VarId.{VarId}
use Rattle.lv_model.specs.declared.plant.Plant.{Plant}
use Rattle.lv_model.specs.declared.state.TrackedState.{TrackedState}
use Rattle.lv_boxes.specs.declared.outcome.Outcome.{Outcome}
use Rattle.lv_boxes.specs.declared.outcome.Outcome.TheVariants.{Unsettled}
use Rattle.lv_boxes.specs.Walk.{Walked}
use Rattle.lv_meaning.specs.declared.aim.Aim.{Aim}
use Rattle.lv_meaning.specs.declared.facts.Facts.{Facts}
use Rattle.lv_meaning.specs.Candidates.{candidates}
use Rattle.lv_ident.specs.lv_search.Standing.{Standing}
use Rattle.lv_ident.specs.Query.{QueryValue, groups_for, IsQueryOf}
use Rattle.lv_ident.specs.Trial.{IsSolverOf}
use Rattle.lv_reconf.specs.Query.{QueryValue as RecoveryValue, IsQuery as IsRecoveryQuery}
use Rattle.lv_reconf.specs.Testing.{TestValue, IsTestQuery}
use Rattle.lv_window.specs.Trajectories.{trajectories}
use Rattle.lv_window.specs.Query.{WindowQueryValue, IsWindowQueryOf}
use Rattle.lv_session_request.specs.declared.goals.Goal.{Goal}
use Rattle.lv_session_state.specs.declared.query.Query.{Query}
use Rattle.lv_session_state.specs.declared.query.Query.TheVariants.{Absent, Diagnosis, Recovery, Test, Window}
use Rattle.lv_session_state.specs.declared.running.Asked.{Asked}
use Rattle.lv_session_state.specs.declared.running.Running.{Running}
use Rattle.lv_session_state.specs.declared.running.Running.TheVariants as kept
use Rattle.lv_session_state.specs.State.{SessionState, facts_of, aim_of, walked, recovery, test_aim_of, testing, window_base, window_facts, tracing}

abbrev pub Diagnosed : Type 0
Diagnosed = Asked QueryValue

abbrev pub Recovering : Type 0
Recovering = Asked RecoveryValue

abbrev pub Testing : Type 0
Testing = Asked TestValue

abbrev pub Tracing : Type 0
Tracing = Asked WindowQueryValue

-- the diagnosis of the state that has tried nothing
abbrev pub untried : Plant → SessionState → QueryValue
untried plant state = record {
  plant = plant;
  facts = facts_of state;
  distinct = state.distinct;
  standing = record { k = state.k; groups = groups_for state.distinct plant; listed = []; kept = []; left = candidates plant state.tracked };
}

-- the window of these steps that has tried nothing
abbrev pub untraced : Plant → SessionState → ℕ → WindowQueryValue
untraced plant state steps = record {
  plant = plant;
  steps = window_facts state steps;
  standing = record { k = state.k; groups = None; listed = []; kept = []; left = trajectories plant (length (window_facts state steps)) (window_base state steps) };
}

-- what a search that stands here has come to, where its last run came to this
abbrev pub come_to : Outcome → Standing → Walked
come_to outcome s = record { outcome = outcome; listed = s.listed; kept = s.kept }

-- what the search that is kept has come to
abbrev pub kept_walk : Running → Walked
kept_walk kept.Nothing = record { outcome = Unsettled; listed = []; kept = [] }
kept_walk (kept.Diagnosis d) = come_to d.value.outcome d.value.query.standing
kept_walk (kept.Recovery r) = come_to r.value.outcome r.value.query.standing
kept_walk (kept.Test t) = come_to t.value.outcome t.value.query.standing
kept_walk (kept.Window w) = come_to w.value.outcome w.value.query.standing

-- the search is on the walk of this diagnosis
pub record IsDiagnosisOf (plant : Plant) (facts : Facts) (k : ℕ) (distinct : Bool) (tracked : List TrackedState) (q : QueryValue) : Type 0 where
  pub plant_is : q.plant ≡ plant
  pub facts_are : q.facts ≡ facts
  pub k_is : q.standing.k ≡ k
  pub distinct_is : q.distinct ≡ distinct
  pub on_walk : IsQueryOf tracked q

-- and has come to where the walk with so many trials ends
pub record IsDiagnosisAt (plant : Plant) (state : SessionState) (sum : ℕ) (d : Diagnosed) : Type 0 where
  pub on : IsDiagnosisOf plant (facts_of state) state.k state.distinct state.tracked d.query
  pub came_to : walked plant state sum ≡ come_to d.outcome d.query.standing

-- the same of a recovery, for which some goal is held
pub record IsRecoveryOf (plant : Plant) (aim : Aim) (goals : List Goal) (q : RecoveryValue) : Type 0 where
  pub plant_is : q.plant ≡ plant
  pub aim_is : q.aim ≡ aim
  pub some : 1 ≤ length goals
  pub on_walk : IsRecoveryQuery q

pub record IsRecoveryAt (plant : Plant) (state : SessionState) (sum : ℕ) (r : Recovering) : Type 0 where
  pub on : IsRecoveryOf plant (aim_of state) state.goals r.query
  pub came_to : recovery plant state sum ≡ come_to r.outcome r.query.standing

-- the same of a test
pub record IsTestOf (plant : Plant) (aim : Aim) (x : VarId) (q : TestValue) : Type 0 where
  pub plant_is : q.plant ≡ plant
  pub aim_is : q.aim ≡ aim
  pub var_is : q.var ≡ x
  pub on_walk : IsTestQuery q

pub record IsTestAt (plant : Plant) (state : SessionState) (x : VarId) (sum : ℕ) (t : Testing) : Type 0 where
  pub on : IsTestOf plant (test_aim_of state) x t.query
  pub came_to : testing plant state x sum ≡ come_to t.outcome t.query.standing

-- the same of a window
pub record IsWindowOf (plant : Plant) (facts : List Facts) (k : ℕ) (base : List TrackedState) (q : WindowQueryValue) : Type 0 where
  pub plant_is : q.plant ≡ plant
  pub steps_are : q.steps ≡ facts
  pub k_is : q.standing.k ≡ k
  pub on_walk : IsWindowQueryOf base q

pub record IsTracingAt (plant : Plant) (state : SessionState) (steps sum : ℕ) (t : Tracing) : Type 0 where
  pub on : IsWindowOf plant (window_facts state steps) state.k (window_base state steps) t.query
  pub came_to : tracing plant state steps sum ≡ come_to t.outcome t.query.standing

-- the search that is kept is on the walk of the query
abbrev pub IsOn : Query → Plant → SessionState → Running → Type 0
IsOn (Diagnosis sum) plant state (kept.Diagnosis d) = IsDiagnosisOf plant (facts_of state) state.k state.distinct state.tracked d.value.query
IsOn (Recovery sum) plant state (kept.Recovery r) = IsRecoveryOf plant (aim_of state) state.goals r.value.query
IsOn (Test x sum) plant state (kept.Test t) = IsTestOf plant (test_aim_of state) x t.value.query
IsOn (Window steps sum) plant state (kept.Window w) = IsWindowOf plant (window_facts state steps) state.k (window_base state steps) w.value.query
IsOn q plant state running = ⊥

-- of a query its search is kept; where no query is current nothing is asked
abbrev pub IsKeptOf : Query → Plant → SessionState → Running → Type 0
IsKeptOf Absent plant state running = Unit {0}
IsKeptOf (Diagnosis sum) plant state (kept.Diagnosis d) = IsDiagnosisAt plant state sum d.value
IsKeptOf (Recovery sum) plant state (kept.Recovery r) = IsRecoveryAt plant state sum r.value
IsKeptOf (Test x sum) plant state (kept.Test t) = IsTestAt plant state x sum t.value
IsKeptOf (Window steps sum) plant state (kept.Window w) = IsTracingAt plant state steps sum w.value
IsKeptOf q plant state running = ⊥

-- what is kept is that of the current query
abbrev pub IsCurrent : Plant → SessionState → Running → Type 0
IsCurrent plant state running = IsKeptOf state.query plant state running

-- a solver that is kept, by a diagnosis or beside another search, is of the plant
abbrev pub KeepsSolverOf : Plant → Running → Type 0
KeepsSolverOf plant kept.Nothing = Unit {0}
KeepsSolverOf plant (kept.Diagnosis d) = d.value.query.plant ≡ plant
KeepsSolverOf plant (kept.Recovery r) = IfSome r.value.spare (IsSolverOf plant)
KeepsSolverOf plant (kept.Test t) = IfSome t.value.spare (IsSolverOf plant)
KeepsSolverOf plant (kept.Window w) = IfSome w.value.spare (IsSolverOf plant)

-- what is kept is that of the current query, and so is a solver for the next diagnosis
pub record IsWorking (plant : Plant) (state : SessionState) (running : Running) : Type 0 where
  pub current : IsCurrent plant state running
  pub solver : KeepsSolverOf plant running
