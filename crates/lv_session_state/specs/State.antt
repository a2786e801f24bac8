-- The state of a session, and what a request does to it.
use Rattle.std.specs.Prelude.{ℕ, ◌+◌, ◌-◌, Bool, false, true, ◌||◌, ◌&&◌, not, nat_eq, nat_le, nat_lt, List, [], ◌∷◌, ◌++◌, length, drop, map, filter, slice_set, if◌then◌else◌}
use Rattle.std.specs.List.{list_any}
use Rattle.lv_base.specs.declared.ids.ValId.{ValId}
use Rattle.lv_base.specs.declared.ids.VarId.{VarId}
use Rattle.lv_base.specs.declared.rank.Rank.{Rank}
use Rattle.lv_base.specs.declared.limits.TheConstants.{LISTED, TRIALS, OBSERVATIONS, GOALS, NAME_BYTES, COMMITS}
use Rattle.lv_base.specs.Names.{is_named}
use Rattle.lv_base.specs.Tree.{Tree}
use Rattle.lv_model.specs.declared.plant.Plant.{Plant}
use Rattle.lv_model.specs.declared.state.TrackedState.{TrackedState}
use Rattle.lv_model.specs.Lists.{controls}
use Rattle.lv_boxes.specs.declared.outcome.Outcome.{Outcome}
use Rattle.lv_boxes.specs.declared.outcome.Outcome.TheVariants.{Settled, Unsettled}
use Rattle.lv_boxes.specs.Walk.{Walked}
use Rattle.lv_meaning.specs.declared.facts.Facts.{Facts}
use Rattle.lv_meaning.specs.Candidates.{candidates}
use Rattle.lv_meaning.specs.Diagnosis.{diagnosis_walk}
use Rattle.lv_meaning.specs.declared.aim.Aim.{Aim}
use Rattle.lv_meaning.specs.Recovery.{recovery_walk}
use Rattle.lv_reconf.specs.Tests.{test_walk}
use Rattle.lv_tracker.specs.Tracked.{start_state, advanced}
use Rattle.lv_reply.specs.declared.reply.Refusal.TheVariants.{NameHeld, NameNotHeld, OutOfLimits, NoQuery, NotUnsettled, NothingListed, NoGoal, TooManyHeld, TooManyCommits}
use Rattle.lv_reply.specs.declared.reply.Reply.{Reply}
use Rattle.lv_reply.specs.declared.reply.Reply.TheVariants.{Accepted, Refused, Settled as SettledReply, Unsettled as UnsettledReply, Conflicts as ConflictsReply, Committed, Recovered, NoRecovery, Undecided, CommandConflicts, Tested, NoTest, SettledWindow, UnsettledWindow, WindowConflicts}
use Rattle.lv_session_request.specs.Held.{observation_of, has_name, lacks_name}
use Rattle.lv_session_request.specs.declared.goals.Goal.{Goal}
use Rattle.lv_session_request.specs.declared.request.Command.{Command}
use Rattle.lv_session_request.specs.declared.request.Sighting.{Sighting}
use Rattle.lv_session_history.specs.declared.history.Past.{Past}
use Rattle.lv_session_history.specs.History.{with_room, has_steps, commits_in}
use Rattle.lv_session_history.specs.Steps.{tracked_before, facts_on}
use Rattle.lv_window.specs.Trajectories.{trajectories}
use Rattle.lv_window.specs.Walk.{window_walk}
use Rattle.lv_session_state.specs.declared.query.Query.{Query}
use Rattle.lv_session_state.specs.declared.query.Query.TheVariants.{Absent, Diagnosis, Recovery, Test, Window}

-- the states that the plant may be in; how many commits were made; how many candidates a diagnosis lists, and whether no two of
-- them may lead to one state; the trials of a new query; the value that each control is commanded to, in written order; the observations of the assignments before and after the
-- step; what is kept of the last commits, the oldest first; the goals; the current query; and whether the session has ended
pub record SessionState : Type 0 where
  pub tracked : List TrackedState
  pub time : ℕ
  pub k : ℕ
  pub distinct : Bool
  pub budget : ℕ
  pub controls : List ValId
  pub present : List Sighting
  pub next : List Sighting
  pub history : List Past
  pub goals : List Goal
  pub query : Query
  pub is_ended : Bool

-- the first value of its domain, at which a control rests
abbrev pub rest : ValId
rest = record { 0 = 0 }

-- every control rests
abbrev pub resting : Plant → List ValId
resting plant = map (λ (c : VarId). rest) (controls plant)

-- at the start there is one tracked state, that of the parts' starting modes
abbrev pub start : Plant → SessionState
start plant = record {
  tracked = start_state plant ∷ [];
  time = 0;
  k = LISTED;
  distinct = false;
  budget = TRIALS;
  controls = resting plant;
  present = [];
  next = [];
  history = [];
  goals = [];
  query = Absent;
  is_ended = false;
}

-- the facts: the controls' values, and what was observed
abbrev pub facts_of : SessionState → Facts
facts_of state = record {
  controls = state.controls;
  present = map observation_of state.present;
  next = map observation_of state.next;
}

-- the walk of a diagnosis with so many trials along the candidates of the tracked states
unfoldable pub walked : Plant → SessionState → ℕ → Walked
walked plant state trials = diagnosis_walk plant (facts_of state) state.k state.distinct trials (candidates plant state.tracked)

abbrev pub formula_of : Goal → Tree
formula_of g = g.formula

-- the canonical text of its formula
abbrev pub text_of_goal : Goal → List ℕ
text_of_goal g = g.text

-- what is asked of a recovery: from the tracked states, with what is observed now, to the goals
abbrev pub aim_of : SessionState → Aim
aim_of state = record {
  tracked = state.tracked;
  present = map observation_of state.present;
  goals = map formula_of state.goals;
}

-- the walk of a recovery with so many trials along the command sets
unfoldable pub recovery : Plant → SessionState → ℕ → Walked
recovery plant state trials = recovery_walk plant (aim_of state) trials

-- what is asked of a test: from the tracked states, with what is observed now, and nothing of goals
abbrev pub test_aim_of : SessionState → Aim
test_aim_of state = record { tracked = state.tracked; present = map observation_of state.present; goals = [] }

-- the walk of a test of the variable with so many trials along the command sets
unfoldable pub testing : Plant → SessionState → VarId → ℕ → Walked
testing plant state x trials = test_walk plant (test_aim_of state) x trials

-- where the last so many steps start, and what is known of each, the last being the one that isn't committed
abbrev pub window_base : SessionState → ℕ → List TrackedState
window_base state steps = tracked_before (commits_in state.history steps) state.tracked

abbrev pub window_facts : SessionState → ℕ → List Facts
window_facts state steps = facts_on (commits_in state.history steps) state.present (facts_of state)

-- the time from which the first of them starts
abbrev pub window_start : SessionState → ℕ → ℕ
window_start state steps = state.time - length (commits_in state.history steps)

-- the walk of a window over these steps with so many trials along the trajectories
unfoldable pub tracing : Plant → SessionState → ℕ → ℕ → Walked
tracing plant state steps trials =
    window_walk plant (window_facts state steps) state.k trials (trajectories plant (length (window_facts state steps)) (window_base state steps))

-- the walk of a query; of none, one that has tried nothing
abbrev pub walk_of : Query → Plant → SessionState → Walked
walk_of Absent plant state = record { outcome = Unsettled; listed = []; kept = [] }
walk_of (Diagnosis sum) plant state = walked plant state sum
walk_of (Recovery sum) plant state = recovery plant state sum
walk_of (Test x sum) plant state = testing plant state x sum
walk_of (Window steps sum) plant state = tracing plant state steps sum

pub record Stepped : Type 0 where
  pub state : SessionState
  pub reply : Reply

-- nothing changes
abbrev pub unchanged : SessionState → Reply → Stepped
unchanged state reply = record { state = state; reply = reply }

-- carried out, and no query is current
abbrev pub cleared : SessionState → Stepped
cleared state = record { state = record state { query = Absent }; reply = Accepted }

-- `track`
abbrev pub track : SessionState → ℕ → Bool → Stepped
track state n distinct = cleared (record state { k = n; distinct = distinct })

-- `budget`
abbrev pub set_budget : SessionState → ℕ → Stepped
set_budget state n = record { state = record state { budget = n }; reply = Accepted }

-- the control of this place has the value
abbrev pub commanded : SessionState → ℕ → ValId → Stepped
commanded state place value = cleared (record state { controls = slice_set state.controls place value })

-- `command`
abbrev pub set_control : SessionState → Command → Stepped
set_control state c = commanded state c.place c.value

-- `release`
abbrev pub release : SessionState → ℕ → Stepped
release state place = commanded state place rest

-- an observation of this name is held, present or next
abbrev pub is_held : SessionState → List ℕ → Bool
is_held state name = list_any (has_name name) state.present || list_any (has_name name) state.next

-- no further observation can be held, or none under such a name
abbrev pub has_no_room : SessionState → List ℕ → Bool
has_no_room state name = nat_le OBSERVATIONS (length state.present + length state.next) || nat_lt NAME_BYTES (length name)

-- `observe`: one more next observation
abbrev pub observe : SessionState → Sighting → Stepped
observe state s =
    if is_held state s.name then unchanged state (Refused NameHeld)
    else (if has_no_room state s.name then unchanged state (Refused TooManyHeld)
    else cleared (record state { next = state.next ++ (s ∷ []) }))

-- `retract`: the others stay
abbrev pub retract : SessionState → List ℕ → Stepped
retract state name =
    if is_held state name
    then cleared (record state { present = filter (lacks_name name) state.present; next = filter (lacks_name name) state.next })
    else unchanged state (Refused NameNotHeld)

-- the goal has this name
abbrev pub has_goal_name : List ℕ → Goal → Bool
has_goal_name name g = is_named name g.name

abbrev pub lacks_goal_name : List ℕ → Goal → Bool
lacks_goal_name name g = not (has_goal_name name g)

-- a goal of this name is held
abbrev pub is_goal : SessionState → List ℕ → Bool
is_goal state name = list_any (has_goal_name name) state.goals

-- no further goal can be held, or none under such a name
abbrev pub has_no_goal_room : SessionState → List ℕ → Bool
has_no_goal_room state name = nat_le GOALS (length state.goals) || nat_lt NAME_BYTES (length name)

-- `goal`: one more goal
abbrev pub set_goal : SessionState → Goal → Stepped
set_goal state g =
    if is_goal state g.name then unchanged state (Refused NameHeld)
    else (if has_no_goal_room state g.name then unchanged state (Refused TooManyHeld)
    else cleared (record state { goals = state.goals ++ (g ∷ []) }))

-- `drop`: the others stay
abbrev pub drop_goal : SessionState → List ℕ → Stepped
drop_goal state name =
    if is_goal state name
    then cleared (record state { goals = filter (lacks_goal_name name) state.goals })
    else unchanged state (Refused NameNotHeld)

-- how many trials were made
abbrev pub trials : Walked → ℕ
trials w = length w.listed + length w.kept

abbrev pub reply_by : Outcome → Walked → Reply
reply_by Settled w = SettledReply w.listed
reply_by Unsettled w = UnsettledReply w.listed (trials w)

-- what a diagnosis that came to this replies
abbrev pub diagnosis_reply : Walked → Reply
diagnosis_reply w = reply_by w.outcome w

-- `diagnose`, and a query that goes on: the current query is a diagnosis with so many trials
abbrev pub diagnosed : Plant → SessionState → ℕ → Stepped
diagnosed plant state sum = record { state = record state { query = Diagnosis sum }; reply = diagnosis_reply (walked plant state sum) }

-- what a recovery that came to this replies: the command set listed, if there is one
abbrev pub found : List Rank → Reply
found [] = NoRecovery
found (r ∷ rs) = Recovered r

abbrev pub recovery_reply_by : Outcome → Walked → Reply
recovery_reply_by Settled w = found w.listed
recovery_reply_by Unsettled w = Undecided (trials w)

abbrev pub recovery_reply : Walked → Reply
recovery_reply w = recovery_reply_by w.outcome w

-- the current query is a recovery with so many trials
abbrev pub recovered : Plant → SessionState → ℕ → Stepped
recovered plant state sum = record { state = record state { query = Recovery sum }; reply = recovery_reply (recovery plant state sum) }

-- what a test that came to this replies: the command set listed, if there is one
abbrev pub found_test : List Rank → Reply
found_test [] = NoTest
found_test (r ∷ rs) = Tested r

abbrev pub test_reply_by : Outcome → Walked → Reply
test_reply_by Settled w = found_test w.listed
test_reply_by Unsettled w = Undecided (trials w)

abbrev pub test_reply : Walked → Reply
test_reply w = test_reply_by w.outcome w

-- `test`, and a query that goes on: the current query is a test of the variable with so many trials
abbrev pub tested : Plant → SessionState → VarId → ℕ → Stepped
tested plant state x sum = record { state = record state { query = Test x sum }; reply = test_reply (testing plant state x sum) }

abbrev pub window_reply_by : Outcome → ℕ → Walked → Reply
window_reply_by Settled steps w = SettledWindow steps w.listed
window_reply_by Unsettled steps w = UnsettledWindow steps w.listed (trials w)

-- what a window over so many steps that came to this replies
abbrev pub window_reply : ℕ → Walked → Reply
window_reply steps w = window_reply_by w.outcome steps w

-- a window, and one that goes on: the current query is a window over these steps with so many trials
abbrev pub traced : Plant → SessionState → ℕ → ℕ → Stepped
traced plant state steps sum = record { state = record state { query = Window steps sum }; reply = window_reply steps (tracing plant state steps sum) }

-- what a query whose walk came to this replies
abbrev pub reply_to : Query → Walked → Reply
reply_to Absent w = Refused NoQuery
reply_to (Diagnosis sum) w = diagnosis_reply w
reply_to (Recovery sum) w = recovery_reply w
reply_to (Test x sum) w = test_reply w
reply_to (Window steps sum) w = window_reply steps w

-- any of these: it becomes the current query
abbrev pub asked : Query → Plant → SessionState → Stepped
asked q plant state = record { state = record state { query = q }; reply = reply_to q (walk_of q plant state) }

-- `window`: so many steps have to be kept
abbrev pub look_back : Plant → SessionState → ℕ → Stepped
look_back plant state steps = if has_steps state.history steps then traced plant state steps state.budget else unchanged state (Refused OutOfLimits)

-- `recover`: some goal has to be held
abbrev pub recover : Plant → SessionState → Stepped
recover plant state = if nat_eq (length state.goals) 0 then unchanged state (Refused NoGoal) else recovered plant state state.budget

abbrev pub more_by : Outcome → Plant → SessionState → ℕ → Stepped
more_by Settled plant state sum = unchanged state (Refused NotUnsettled)
more_by Unsettled plant state sum = diagnosed plant state sum

abbrev pub more_recovery_by : Outcome → Plant → SessionState → ℕ → Stepped
more_recovery_by Settled plant state sum = unchanged state (Refused NotUnsettled)
more_recovery_by Unsettled plant state sum = recovered plant state sum

abbrev pub more_test_by : Outcome → Plant → SessionState → VarId → ℕ → Stepped
more_test_by Settled plant state x sum = unchanged state (Refused NotUnsettled)
more_test_by Unsettled plant state x sum = tested plant state x sum

abbrev pub more_window_by : Outcome → Plant → SessionState → ℕ → ℕ → Stepped
more_window_by Settled plant state steps sum = unchanged state (Refused NotUnsettled)
more_window_by Unsettled plant state steps sum = traced plant state steps sum

-- the trials that a query may make
abbrev pub sum_of : Query → ℕ
sum_of Absent = 0
sum_of (Diagnosis sum) = sum
sum_of (Recovery sum) = sum
sum_of (Test x sum) = sum
sum_of (Window steps sum) = sum

-- the same query with so many trials more
abbrev pub with_more : Query → ℕ → Query
with_more Absent n = Absent
with_more (Diagnosis sum) n = Diagnosis (sum + n)
with_more (Recovery sum) n = Recovery (sum + n)
with_more (Test x sum) n = Test x (sum + n)
with_more (Window steps sum) n = Window steps (sum + n)

-- `more`: a query that isn't settled goes on with the sum of its trials
abbrev pub more : Query → Plant → SessionState → ℕ → Stepped
more Absent plant state n = unchanged state (Refused NotUnsettled)
more (Diagnosis sum) plant state n = more_by (walked plant state sum).outcome plant state (sum + n)
more (Recovery sum) plant state n = more_recovery_by (recovery plant state sum).outcome plant state (sum + n)
more (Test x sum) plant state n = more_test_by (testing plant state x sum).outcome plant state x (sum + n)
more (Window steps sum) plant state n = more_window_by (tracing plant state steps sum).outcome plant state steps (sum + n)

-- `conflicts`: those that the current query kept
abbrev pub conflicts : Query → Plant → SessionState → Stepped
conflicts Absent plant state = unchanged state (Refused NoQuery)
conflicts (Diagnosis sum) plant state = unchanged state (ConflictsReply (walked plant state sum).kept (trials (walked plant state sum)))
conflicts (Recovery sum) plant state = unchanged state (CommandConflicts (recovery plant state sum).kept (trials (recovery plant state sum)))
conflicts (Test x sum) plant state = unchanged state (CommandConflicts (testing plant state x sum).kept (trials (testing plant state x sum)))
conflicts (Window steps sum) plant state =
    unchanged state (WindowConflicts (window_start state steps) (tracing plant state steps sum).kept (trials (tracing plant state steps sum)))

-- with this outcome a query is settled
abbrev pub is_settled_by : Outcome → Bool
is_settled_by Settled = true
is_settled_by Unsettled = false

-- a query is current, and is settled
abbrev pub is_settled : Query → Plant → SessionState → Bool
is_settled Absent plant state = false
is_settled (Diagnosis sum) plant state = is_settled_by (walked plant state sum).outcome
is_settled (Recovery sum) plant state = is_settled_by (recovery plant state sum).outcome
is_settled (Test x sum) plant state = is_settled_by (testing plant state x sum).outcome
is_settled (Window steps sum) plant state = is_settled_by (tracing plant state steps sum).outcome

-- a query is current
abbrev pub is_asked : Query → Bool
is_asked Absent = false
is_asked (Diagnosis sum) = true
is_asked (Recovery sum) = true
is_asked (Test x sum) = true
is_asked (Window steps sum) = true

-- a query is current that `more` goes on with
abbrev pub is_unsettled : Plant → SessionState → Bool
is_unsettled plant state = not state.is_ended && is_asked state.query && not (is_settled state.query plant state)

-- the state before a commit, as it is kept
abbrev pub past_of : SessionState → Past
past_of state = record { tracked = state.tracked; controls = state.controls; observed = state.present }

-- the listed candidates are taken over: what they lead to is tracked, the next observations become present, the controls rest, and what was
-- is kept
abbrev pub advanced_to : Plant → SessionState → List Rank → SessionState
advanced_to plant state listed = record state {
  tracked = advanced plant listed;
  time = state.time + 1;
  controls = resting plant;
  present = state.next;
  next = [];
  history = with_room state.history ++ (past_of state ∷ []);
  query = Absent;
}

abbrev pub taken_over : Plant → SessionState → List Rank → Stepped
taken_over plant state listed =
    if nat_eq (length listed) 0 then unchanged state (Refused NothingListed)
    else (if nat_le COMMITS state.time then unchanged state (Refused TooManyCommits)
    else record { state = advanced_to plant state listed; reply = Committed (state.time + 1) (length (advanced plant listed)) })

abbrev pub commit_by : Outcome → Plant → SessionState → List Rank → Stepped
commit_by Settled plant state listed = taken_over plant state listed
commit_by Unsettled plant state listed = unchanged state (Refused NoQuery)

-- the last step of a trajectory, at what the whole cost: its last choices, one for each part
abbrev pub last_step : Plant → Rank → Rank
last_step plant r = record r { choices = drop (length r.choices - length plant.parts) r.choices }

-- `commit`: a settled diagnosis that is current is taken over, and of a settled window what its trajectories led to
abbrev pub commit : Query → Plant → SessionState → Stepped
commit Absent plant state = unchanged state (Refused NoQuery)
commit (Diagnosis sum) plant state = commit_by (walked plant state sum).outcome plant state (walked plant state sum).listed
commit (Recovery sum) plant state = unchanged state (Refused NoQuery)
commit (Test x sum) plant state = unchanged state (Refused NoQuery)
commit (Window steps sum) plant state = commit_by (tracing plant state steps sum).outcome plant state (map (last_step plant) (tracing plant state steps sum).listed)

-- `reset`
abbrev pub reset : Plant → Stepped
reset plant = record { state = start plant; reply = Accepted }

-- `quit`
abbrev pub quit : SessionState → Stepped
quit state = record { state = record state { is_ended = true }; reply = Accepted }
