-- The state of a session over a plant stays one, whatever is asked for.
use Rattle.std.proofs.Common.{◌≡◌, ℕ, zero, suc, ◌+◌, ◌<◌, ◌≤◌, Bool, true, false, cond, ◌||◌, nat_eq, nat_le, nat_lt, ◌-◌, Option, None, slice_get, slice_index_or, slice_set, Some, List, [], ◌∷◌, ◌++◌, length, map, filter, Result, Ok, Err, IfOk, OnErr, refl, sym, ◌∙◌, ap, subst, arith, All}
use Rattle.std.specs.Option.{option_map_or}
use Rattle.std.proofs.lemmas.Bool.{leb-false}
use Rattle.std.proofs.lemmas.List.{length-map, length-set, length-append}
use Rattle.std.proofs.lemmas.List.Elements.{All-cons, All-append, All-nil, All-head, All-tail, All-filter}
use Rattle.lv_base.specs.declared.ids.ValId.{ValId}
use Rattle.lv_base.specs.declared.ids.VarId.{VarId}
use Rattle.lv_base.specs.declared.rank.Rank.{Rank}
use Rattle.std.proofs.lemmas.List.Sums.{length-filter, count_by-le-length}
use Rattle.lv_base.specs.declared.limits.TheConstants.{COMMITS, TRACKED, OBSERVATIONS, GOALS, NAME_BYTES}
use Rattle.lv_model.specs.declared.plant.Plant.{Plant}
use Rattle.lv_model.specs.declared.plant.Part.{Part}
use Rattle.lv_model.specs.Lists.{sizes, controls, variable_count, IsVariable}
use Rattle.lv_model.proofs.Controls.{controls-in_range}
use Rattle.lv_model.proofs.Reading.{All-at}
use Rattle.lv_session_state.specs.lv_meaning.Facts.{commanded, HasValue}
use Rattle.lv_session_state.proofs.lv_model_names.ScopeLemmas.{below_size}
use Rattle.lv_session_state.proofs.lv_model_names.PositiveLemmas.{variable_has_value}
use Rattle.lv_model.specs.Ranges.{plant_ranges}
use Rattle.lv_model.specs.WellFormed.{is_well_formed}
use Rattle.lv_boxes.specs.declared.outcome.Outcome.{Outcome}
use Rattle.lv_boxes.specs.declared.outcome.Outcome.TheVariants.{Settled, Unsettled}
use Rattle.lv_session_state.specs.lv_tracker.Targets.{target_state}
use Rattle.lv_session_state.specs.lv_tracker.Tracked.{start_state, advanced, HasModes}
use Rattle.lv_session_state.proofs.lv_tracker.ListLemmas.{first_all, targets_have_modes}
use Rattle.lv_reply.specs.declared.reply.Refusal.TheVariants.{NameHeld, NameNotHeld, OutOfLimits, NoQuery, NothingListed, NoGoal, TooManyHeld, TooManyCommits}
use Rattle.lv_reply.specs.declared.reply.Reply.{Reply}
use Rattle.lv_reply.specs.declared.reply.Reply.TheVariants.{Refused, Committed, Certificate as Certified}
use Rattle.lv_model.specs.declared.state.TrackedState.{TrackedState}
use Rattle.lv_session_state.specs.lv_meaning.Ranges.{StateFits}
use Rattle.lv_session_state.specs.lv_session_request.declared.goals.Goal.{Goal}
use Rattle.lv_session_state.specs.lv_session_request.declared.request.Sighting.{Sighting}
use Rattle.lv_session_state.specs.lv_session_request.declared.request.Retraction.{Retraction}
use Rattle.lv_session_state.specs.lv_session_request.declared.request.Request.{Request}
use Rattle.lv_session_state.specs.lv_session_request.declared.request.Request.TheVariants.{Nothing, Track, TrackDistinct, SetBudget, SetControl, Release, Observe, Retract, RetractAt, SetGoal, DropGoal, Diagnose, Recover, More, Commit, Conflicts, Certificate, Labels, LabelsFrom, States, Reset, Quit, Probe, Test as ToTest, Window as ToWindow}
use Rattle.lv_session_state.specs.lv_session_request.Forms.{IsUpTo}
use Rattle.lv_session_state.specs.lv_session_request.Goals.{IsGoalIn}
use Rattle.lv_session_state.specs.lv_session_request.Requests.{IsSightingIn, IsRequestOf}
use Rattle.lv_session_state.specs.declared.query.Query.{Query}
use Rattle.lv_session_state.specs.declared.query.Query.TheVariants.{Absent, Diagnosis, Recovery, Test, Window}
use Rattle.lv_session_state.specs.lv_session_request.Held.{lacks_name}
use Rattle.lv_session_state.specs.State.{SessionState, Stepped, start, rest, unchanged, cleared, walked, recovery, is_held, observe, retract, is_goal, lacks_goal_name, set_goal, drop_goal, recovered, recover, more, more_by, more_recovery_by, commit, commit_by, testing, more_test_by, tracing, traced, look_back, more_window_by, last_step, conflicts, taken_over, past_of, advanced_to}
use Rattle.lv_session_state.specs.lv_session_history.declared.history.Past.{Past}
use Rattle.lv_session_state.specs.lv_session_history.History.{has_steps, without_in}
use Rattle.lv_session_state.specs.lv_session_history.Pasts.{StateCosts, IsHistoryOf}
use Rattle.lv_session_state.specs.Times.{first_time, is_kept, is_held_of, without_of, retract_at}
use Rattle.lv_session_state.proofs.lv_session_history.HistoryLemmas.{history_without, history_on}
use Rattle.lv_session.specs.Session.{is_certifiable, certificate, labelled, labelled_from, probed_reply, probe_by, probe, carried_out}
use Rattle.lv_session_state.specs.States.{RankCosts, IsStateOf, IsListOf}
use Rattle.lv_session.proofs.Fitting.{start_fits, all_fit}
use Rattle.lv_session_state.proofs.Listed.{list_of}
use Rattle.lv_session_state.proofs.WindowsAsked.{last_list_of}

-- every control rests
pub rest_whole : (cs : List VarId) → length (map (λ (c : VarId). rest) cs) ≡ length cs
rest_whole cs = length-map cs (λ (c : VarId). rest)

mode_for_each : (ps : List Part) → length (map (λ (p : Part). p.start) ps) ≡ length ps
mode_for_each ps = length-map ps (λ (p : Part). p.start)

-- the values of the controls

value_set : (sizes : List ℕ) (cs : List VarId) (vs : List ValId) (place : ℕ) (value : ValId) → ((x : VarId) → slice_get cs place ≡ Some x → value.0 < slice_index_or sizes x.0 0)
    → All (HasValue sizes) (commanded cs vs) → All (HasValue sizes) (commanded cs (slice_set vs place value))
value_set sizes [] vs place value has all = All-nil (HasValue sizes)
value_set sizes (c ∷ cs) [] place value has all = All-nil (HasValue sizes)
value_set sizes (c ∷ cs) (v ∷ vs) zero value has all =
    All-cons (HasValue sizes) (record { var = c; val = value }) (commanded cs vs) (record { below = has c refl }) (All-tail (HasValue sizes) (record { var = c; val = v }) (commanded cs vs) all)
value_set sizes (c ∷ cs) (v ∷ vs) (suc place) value has all =
    All-cons (HasValue sizes) (record { var = c; val = v }) (commanded cs (slice_set vs place value)) (All-head (HasValue sizes) (record { var = c; val = v }) (commanded cs vs) all)
    (value_set sizes cs vs place value has (All-tail (HasValue sizes) (record { var = c; val = v }) (commanded cs vs) all))

values_rest : (plant : Plant) → is_well_formed plant ≡ true → (cs : List VarId) → All (IsVariable (variable_count plant)) cs → All (HasValue (sizes plant)) (commanded cs (map (λ (c : VarId). rest) cs))
values_rest plant h [] all = All-nil (HasValue (sizes plant))
values_rest plant h (c ∷ cs) all =
    All-cons (HasValue (sizes plant)) (record { var = c; val = rest }) (commanded cs (map (λ (c : VarId). rest) cs))
    (record { below = variable_has_value plant h c.0 (All-head (IsVariable (variable_count plant)) c cs all).below })
    (values_rest plant h cs (All-tail (IsVariable (variable_count plant)) c cs all))

values_at_rest : (plant : Plant) → is_well_formed plant ≡ true → All (HasValue (sizes plant)) (commanded (controls plant) (map (λ (c : VarId). rest) (controls plant)))
values_at_rest plant h = values_rest plant h (controls plant) (controls-in_range plant h)

rests : (plant : Plant) → is_well_formed plant ≡ true → (place : ℕ) (x : VarId) → slice_get (controls plant) place ≡ Some x → 0 < slice_index_or (sizes plant) x.0 0
rests plant h place x here = variable_has_value plant h x.0 (All-at (IsVariable (variable_count plant)) (controls plant) place x (controls-in_range plant h) here).below

pub start_kept : (plant : Plant) → is_well_formed plant ≡ true → IsStateOf plant (start plant)
start_kept plant h = record {
  controls_whole = rest_whole (controls plant);
  values = values_at_rest plant h;
  modes = All-cons (HasModes (length plant.parts)) (start_state plant) [] (record { modes = mode_for_each plant.parts }) (All-nil (HasModes (length plant.parts)));
  fit = All-cons (StateFits plant) (start_state plant) [] (start_fits plant h) (All-nil (StateFits plant));
  costs = All-cons (StateCosts 0) (start_state plant) [] (record { most = omega arith }) (All-nil (StateCosts 0));
  time = omega arith;
  k = record { some = omega arith; few = omega arith };
  present = All-nil (IsSightingIn plant);
  next = All-nil (IsSightingIn plant);
  held = omega arith;
  history = record { each = tt; many = refl };
  goals = All-nil (IsGoalIn plant);
  few_goals = omega arith;
}

kept_few : {X : Type 0} (test : X → Bool) (ss : List X) → length (filter test ss) ≤ length ss
kept_few test ss = subst (λ n. n ≤ length ss) (sym (length-filter test ss)) (count_by-le-length test ss)

costs_map : (plant : Plant) (time : ℕ) (listed : List Rank) → All (RankCosts time) listed → All (StateCosts time) (map (target_state plant) listed)
costs_map plant time [] all = All-nil (StateCosts time)
costs_map plant time (r ∷ rs) all =
    All-cons (StateCosts time) (target_state plant r) (map (target_state plant) rs)
    (record { most = (All-head (RankCosts time) r rs all).most }) (costs_map plant time rs (All-tail (RankCosts time) r rs all))

module _ (plant : Plant) (state : SessionState) (h : is_well_formed plant ≡ true) (is : IsStateOf plant state) where
  -- what no other field is about may change
  numbers_kept : (k : ℕ) (distinct : Bool) (budget : ℕ) (query : Query) (ended : Bool) → IsUpTo TRACKED k → IsStateOf plant (record state { k = k; distinct = distinct; budget = budget; query = query; is_ended = ended })
  numbers_kept k distinct budget query ended few =
      record { controls_whole = is.controls_whole; values = is.values; modes = is.modes; fit = is.fit; costs = is.costs; time = is.time; k = few; present = is.present; next = is.next; held = is.held; history = is.history; goals = is.goals; few_goals = is.few_goals }

  control_kept : (place : ℕ) (value : ValId) → ((x : VarId) → slice_get (controls plant) place ≡ Some x → value.0 < slice_index_or (sizes plant) x.0 0)
      → IsStateOf plant (record state { controls = slice_set state.controls place value; query = Absent })
  control_kept place value has = record {
    controls_whole = length-set state.controls place value ∙ is.controls_whole;
    values = value_set (sizes plant) (controls plant) state.controls place value has is.values;
    modes = is.modes;
    fit = is.fit;
    costs = is.costs;
    time = is.time;
    k = is.k;
    present = is.present;
    next = is.next;
    held = is.held;
    history = is.history;
    goals = is.goals;
    few_goals = is.few_goals;
  }

  held_kept : (present next : List Sighting) → All (IsSightingIn plant) present → All (IsSightingIn plant) next → length present + length next ≤ OBSERVATIONS
      → IsStateOf plant (record state { present = present; next = next; query = Absent })
  held_kept present next in_present in_next few =
      record { controls_whole = is.controls_whole; values = is.values; modes = is.modes; fit = is.fit; costs = is.costs; time = is.time; k = is.k; present = in_present; next = in_next; held = few; history = is.history; goals = is.goals; few_goals = is.few_goals }

  goals_kept : (goals : List Goal) → All (IsGoalIn plant) goals → length goals ≤ GOALS → IsStateOf plant (record state { goals = goals; query = Absent })
  goals_kept goals within few =
      record { controls_whole = is.controls_whole; values = is.values; modes = is.modes; fit = is.fit; costs = is.costs; time = is.time; k = is.k; present = is.present; next = is.next; held = is.held; history = is.history; goals = within; few_goals = few }

  observe_kept : (s : Sighting) → IsSightingIn plant s → IsStateOf plant (observe state s).state
  observe_kept s within = by (is_held state s.name) (nat_le OBSERVATIONS (length state.present + length state.next)) (nat_lt NAME_BYTES (length s.name)) refl
    where
      by : (a b d : Bool) → nat_le OBSERVATIONS (length state.present + length state.next) ≡ b
          → IsStateOf plant (cond a (unchanged state (Refused NameHeld)) (cond (b || d) (unchanged state (Refused TooManyHeld)) (cleared (record state { next = state.next ++ (s ∷ []) })))).state
      by true b d e = is
      by false true d e = is
      by false false true e = is
      by false false false e =
          let room = leb-false OBSERVATIONS (length state.present + length state.next) e in
          let longer = length-append state.next (s ∷ []) in
          held_kept state.present (state.next ++ (s ∷ [])) is.present
          (All-append (IsSightingIn plant) state.next (s ∷ []) is.next
          (All-cons (IsSightingIn plant) s [] within (All-nil (IsSightingIn plant))))
          (omega (arith, room, longer))

  retract_kept : (name : List ℕ) → IsStateOf plant (retract state name).state
  retract_kept name = by (is_held state name)
    where
      by : (b : Bool)
          → IsStateOf plant (cond b (cleared (record state { present = filter (lacks_name name) state.present; next = filter (lacks_name name) state.next })) (unchanged state (Refused NameNotHeld))).state
      by true =
          let present = kept_few (lacks_name name) state.present in
          let next = kept_few (lacks_name name) state.next in
          let held = is.held in
          held_kept (filter (lacks_name name) state.present) (filter (lacks_name name) state.next)
          (All-filter (lacks_name name) (IsSightingIn plant) state.present is.present)
          (All-filter (lacks_name name) (IsSightingIn plant) state.next is.next)
          (omega (arith, present, next, held))
      by false = is

  history_kept : (history : List Past) → IsHistoryOf plant state.time history → IsStateOf plant (record state { history = history; query = Absent })
  history_kept history kept =
      record { controls_whole = is.controls_whole; values = is.values; modes = is.modes; fit = is.fit; costs = is.costs; time = is.time; k = is.k; present = is.present; next = is.next; held = is.held; history = kept; goals = is.goals; few_goals = is.few_goals }

  without_kept : (time : ℕ) (name : List ℕ) → IsStateOf plant (cleared (without_of state time name)).state
  without_kept time name = by (nat_eq time (state.time + 1)) (nat_eq time state.time)
    where
      by : (a b : Bool)
          → IsStateOf plant (cleared (cond a (record state { next = filter (lacks_name name) state.next }) (cond b (record state { present = filter (lacks_name name) state.present })
          (record state { history = without_in state.history (time - first_time state) name })))).state
      by true b =
          let next = kept_few (lacks_name name) state.next in
          let held = is.held in
          held_kept state.present (filter (lacks_name name) state.next) is.present (All-filter (lacks_name name) (IsSightingIn plant) state.next is.next) (omega (arith, next, held))
      by false true =
          let present = kept_few (lacks_name name) state.present in
          let held = is.held in
          held_kept (filter (lacks_name name) state.present) state.next (All-filter (lacks_name name) (IsSightingIn plant) state.present is.present) is.next (omega (arith, present, held))
      by false false = history_kept (without_in state.history (time - first_time state) name) (history_without plant state.time state.history (time - first_time state) name is.history)

  retract_at_kept : (r : Retraction) → IsStateOf plant (retract_at state r).state
  retract_at_kept r = by (is_kept state r.time) (is_held_of state r.time r.name)
    where
      by : (a b : Bool) → IsStateOf plant (cond a (cond b (cleared (without_of state r.time r.name)) (unchanged state (Refused NameNotHeld))) (unchanged state (Refused OutOfLimits))).state
      by true true = without_kept r.time r.name
      by true false = is
      by false b = is

  set_goal_kept : (g : Goal) → IsGoalIn plant g → IsStateOf plant (set_goal state g).state
  set_goal_kept g within = by (is_goal state g.name) (nat_le GOALS (length state.goals)) (nat_lt NAME_BYTES (length g.name)) refl
    where
      by : (a b d : Bool) → nat_le GOALS (length state.goals) ≡ b
          → IsStateOf plant (cond a (unchanged state (Refused NameHeld)) (cond (b || d) (unchanged state (Refused TooManyHeld)) (cleared (record state { goals = state.goals ++ (g ∷ []) })))).state
      by true b d e = is
      by false true d e = is
      by false false true e = is
      by false false false e =
          let room = leb-false GOALS (length state.goals) e in
          let longer = length-append state.goals (g ∷ []) in
          goals_kept (state.goals ++ (g ∷ [])) (All-append (IsGoalIn plant) state.goals (g ∷ []) is.goals (All-cons (IsGoalIn plant) g [] within (All-nil (IsGoalIn plant))))
          (omega (arith, room, longer))

  drop_goal_kept : (name : List ℕ) → IsStateOf plant (drop_goal state name).state
  drop_goal_kept name = by (is_goal state name)
    where
      by : (b : Bool) → IsStateOf plant (cond b (cleared (record state { goals = filter (lacks_goal_name name) state.goals })) (unchanged state (Refused NameNotHeld))).state
      by true =
          let fewer = kept_few (lacks_goal_name name) state.goals in
          let few = is.few_goals in
          goals_kept (filter (lacks_goal_name name) state.goals) (All-filter (lacks_goal_name name) (IsGoalIn plant) state.goals is.goals) (omega (arith, fewer, few))
      by false = is

  recover_kept : IsStateOf plant (recover plant state).state
  recover_kept = by (nat_eq (length state.goals) 0)
    where
      by : (b : Bool) → IsStateOf plant (cond b (unchanged state (Refused NoGoal)) (recovered plant state state.budget)).state
      by true = is
      by false = numbers_kept state.k state.distinct state.budget (Recovery state.budget) state.is_ended is.k

  labelled_kept : (n : ℕ) → IsStateOf plant (labelled_from plant state n).state
  labelled_kept n = by (slice_get state.tracked (n - 1))
    where
      by : (o : Option TrackedState) → IsStateOf plant (option_map_or (λ (s : TrackedState). labelled plant state (Some s.state)) o (unchanged state (Refused OutOfLimits))).state
      by None = is
      by (Some s) = is

  look_back_kept : (steps : ℕ) → IsStateOf plant (look_back plant state steps).state
  look_back_kept steps = by (has_steps state.history steps)
    where
      by : (b : Bool) → IsStateOf plant (cond b (traced plant state steps state.budget) (unchanged state (Refused OutOfLimits))).state
      by true = numbers_kept state.k state.distinct state.budget (Window steps state.budget) state.is_ended is.k
      by false = is

  more_kept : (q : Query) (n : ℕ) → IsStateOf plant (more q plant state n).state
  more_kept Absent n = is
  more_kept (Diagnosis sum) n = by (walked plant state sum).outcome
    where
      by : (o : Outcome) → IsStateOf plant (more_by o plant state (sum + n)).state
      by Settled = is
      by Unsettled = numbers_kept state.k state.distinct state.budget (Diagnosis (sum + n)) state.is_ended is.k
  more_kept (Recovery sum) n = by (recovery plant state sum).outcome
    where
      by : (o : Outcome) → IsStateOf plant (more_recovery_by o plant state (sum + n)).state
      by Settled = is
      by Unsettled = numbers_kept state.k state.distinct state.budget (Recovery (sum + n)) state.is_ended is.k
  more_kept (Test x sum) n = by (testing plant state x sum).outcome
    where
      by : (o : Outcome) → IsStateOf plant (more_test_by o plant state x (sum + n)).state
      by Settled = is
      by Unsettled = numbers_kept state.k state.distinct state.budget (Test x (sum + n)) state.is_ended is.k
  more_kept (Window steps sum) n = by (tracing plant state steps sum).outcome
    where
      by : (o : Outcome) → IsStateOf plant (more_window_by o plant state steps (sum + n)).state
      by Settled = is
      by Unsettled = numbers_kept state.k state.distinct state.budget (Window steps (sum + n)) state.is_ended is.k

  conflicts_kept : (q : Query) → IsStateOf plant (conflicts q plant state).state
  conflicts_kept Absent = is
  conflicts_kept (Diagnosis sum) = is
  conflicts_kept (Recovery sum) = is
  conflicts_kept (Test x sum) = is
  conflicts_kept (Window steps sum) = is

  certificate_kept : (q : Query) → IsStateOf plant (certificate q plant state).state
  certificate_kept q = by (is_certifiable q plant state)
    where
      by : (b : Bool) → IsStateOf plant (cond b (unchanged state Certified) (unchanged state (Refused NoQuery))).state
      by true = is
      by false = is

  advanced_kept : (listed : List Rank) → IsListOf plant state listed → nat_le COMMITS state.time ≡ false → IsStateOf plant (advanced_to plant state listed)
  advanced_kept listed l early =
      let before : state.time + 1 ≤ COMMITS = omega (arith, leb-false COMMITS state.time early) in
      record {
        controls_whole = rest_whole (controls plant);
        values = values_at_rest plant h;
        modes = targets_have_modes plant listed l.moves;
        fit = first_all (StateFits plant) (map (target_state plant) listed) (all_fit plant h listed l.moves);
        costs = first_all (StateCosts (state.time + 1)) (map (target_state plant) listed) (costs_map plant (state.time + 1) listed l.costs);
        time = before;
        k = is.k;
        present = is.next;
        next = All-nil (IsSightingIn plant);
        held = (let held = is.held in omega (arith, held));
        history =
            history_on plant state.time (past_of state)
            (record { controls_whole = is.controls_whole; values = is.values; modes = is.modes; fit = is.fit; costs = is.costs; observed = is.present; few = let held = is.held in omega (arith, held) })
            state.history is.history;
        goals = is.goals;
        few_goals = is.few_goals;
      }

  taken_kept : (listed : List Rank) → IsListOf plant state listed → IsStateOf plant (taken_over plant state listed).state
  taken_kept listed l = by (nat_eq (length listed) 0) (nat_le COMMITS state.time) refl
    where
      by : (a b : Bool) → nat_le COMMITS state.time ≡ b
          → IsStateOf plant (cond a (unchanged state (Refused NothingListed)) (cond b (unchanged state (Refused TooManyCommits))
          (record { state = advanced_to plant state listed; reply = Committed (state.time + 1) (length (advanced plant listed)) }))).state
      by true b e = is
      by false true e = is
      by false false e = advanced_kept listed l e

  commit_kept : (q : Query) → IsStateOf plant (commit q plant state).state
  commit_kept Absent = is
  commit_kept (Diagnosis sum) = by (walked plant state sum).outcome
    where
      by : (o : Outcome) → IsStateOf plant (commit_by o plant state (walked plant state sum).listed).state
      by Settled = taken_kept (walked plant state sum).listed (list_of plant state h is sum)
      by Unsettled = is
  commit_kept (Recovery sum) = is
  commit_kept (Test x sum) = is
  commit_kept (Window steps sum) = by (tracing plant state steps sum).outcome
    where
      by : (o : Outcome) → IsStateOf plant (commit_by o plant state (map (last_step plant) (tracing plant state steps sum).listed)).state
      by Settled = taken_kept (map (last_step plant) (tracing plant state steps sum).listed) (last_list_of plant state h is steps sum)
      by Unsettled = is

  probe_kept : (q : Query) → IsStateOf plant (probe q plant state).state
  probe_kept Absent = is
  probe_kept (Diagnosis sum) = by (walked plant state sum).outcome
    where
      some : (b : Bool) → IsStateOf plant (cond b (unchanged state (Refused NothingListed)) (unchanged state (probed_reply plant state (walked plant state sum).listed))).state
      some true = is
      some false = is

      by : (o : Outcome) → IsStateOf plant (probe_by o plant state (walked plant state sum).listed).state
      by Settled = some (nat_eq (length (walked plant state sum).listed) 0)
      by Unsettled = is
  probe_kept (Recovery sum) = is
  probe_kept (Test x sum) = is
  probe_kept (Window steps sum) = is

  pub request_kept : (request : Request) → IsRequestOf plant request → IsStateOf plant (carried_out plant state request).state
  request_kept Nothing within = is
  request_kept (Track n) within = numbers_kept n false state.budget Absent state.is_ended within
  request_kept (TrackDistinct n) within = numbers_kept n true state.budget Absent state.is_ended within
  request_kept (SetBudget n) within = numbers_kept state.k state.distinct n state.query state.is_ended is.k
  request_kept (SetControl c) within = control_kept c.place c.value (λ x here. below_size (plant_ranges plant) x.0 c.value.0 (within.value x here))
  request_kept (Release place) within = control_kept place rest (λ x here. rests plant h place x here)
  request_kept (Observe s) within = observe_kept s within
  request_kept (Retract name) within = retract_kept name
  request_kept (RetractAt r) within = retract_at_kept r
  request_kept (SetGoal g) within = set_goal_kept g within
  request_kept (DropGoal name) within = drop_goal_kept name
  request_kept Diagnose within = numbers_kept state.k state.distinct state.budget (Diagnosis state.budget) state.is_ended is.k
  request_kept Recover within = recover_kept
  request_kept (More n) within = more_kept state.query n
  request_kept Commit within = commit_kept state.query
  request_kept Conflicts within = conflicts_kept state.query
  request_kept Certificate within = certificate_kept state.query
  request_kept Labels within = is
  request_kept (LabelsFrom n) within = labelled_kept n
  request_kept States within = is
  request_kept Reset within = start_kept plant h
  request_kept Quit within = numbers_kept state.k state.distinct state.budget state.query true is.k
  request_kept Probe within = probe_kept state.query
  request_kept (ToTest x) within = numbers_kept state.k state.distinct state.budget (Test x state.budget) state.is_ended is.k
  request_kept (ToWindow steps) within = look_back_kept steps

-- whether a request was carried out or memory was wanting
pub state_kept : {E : Type 0} (plant : Plant) (old new : SessionState) (request : Request) (result : Result Reply E) → is_well_formed plant ≡ true → IsStateOf plant old → IsRequestOf plant request
    → IfOk result (λ reply. ◌≡◌ {A = Stepped} (record { state = new; reply = reply }) (carried_out plant old request)) → OnErr result (new ≡ old) → IsStateOf plant new
state_kept plant old new request (Ok reply) h is within done same =
    subst (IsStateOf plant) (sym (ap (λ (s : Stepped). s.state) done)) (request_kept plant old h is request within)
state_kept plant old new request (Err fault) h is within done same = subst (IsStateOf plant) (sym same) is
