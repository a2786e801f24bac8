-- What is kept of the current query: what it has come to, and that it goes on.
use Rattle.std.proofs.Common.{◌≡◌, ℕ, ◌+◌, ◌<◌, ◌≤◌, ◌^◌, true, false, List, length, map, refl, sym, ◌∙◌, ap, subst, arith}
use Rattle.std.specs.declared.alloc.Global.{Global}
use Rattle.std.specs.declared.boxed.Box.{Box}
use Rattle.lv_base.specs.declared.limits.TheConstants.{TRACKED, BUDGET}
use Rattle.lv_model.specs.declared.plant.Plant.{Plant}
use Rattle.lv_model.specs.declared.state.TrackedState.{TrackedState}
use Rattle.lv_model.specs.WellFormed.{is_well_formed}
use Rattle.lv_boxes.specs.declared.outcome.Outcome.{Outcome}
use Rattle.lv_boxes.specs.declared.outcome.Outcome.TheVariants.{Settled, Unsettled}
use Rattle.lv_boxes.specs.Walk.{Walked}
use Rattle.lv_meaning.specs.Candidates.{candidates}
use Rattle.lv_meaning.specs.Diagnosis.{diagnosis_walk}
use Rattle.lv_meaning.specs.Recovery.{recovery_walk}
use Rattle.lv_reconf.specs.Judging.{candidate_commands}
use Rattle.lv_reconf.specs.Tests.{test_walk}
use Rattle.lv_window.specs.Joints.{is_full_window}
use Rattle.lv_window.specs.Trajectories.{trajectories}
use Rattle.lv_window.specs.Walk.{window_walk}
use Rattle.lv_ident.specs.lv_search.Standing.{trials_of, all_suit}
use Rattle.lv_ident.specs.lv_search_zones.Moves.{is_full_choice}
use Rattle.lv_ident.specs.Query.{QueryValue, IsQueryOf}
use Rattle.lv_reconf.specs.Query.{QueryValue as RecoveryValue, IsQuery as IsRecoveryQuery}
use Rattle.lv_reconf.specs.Testing.{TestValue, IsTestQuery}
use Rattle.lv_window.specs.Query.{WindowQueryValue, IsWindowQueryOf}
use Rattle.lv_session_state.specs.declared.query.Query.{Query}
use Rattle.lv_session_state.specs.declared.query.Query.TheVariants.{Absent, Diagnosis, Recovery, Test, Window}
use Rattle.lv_session_state.specs.declared.running.Running.{Running}
use Rattle.lv_session_state.specs.declared.running.Running.TheVariants as kept
use Rattle.lv_session_state.specs.Current.{Diagnosed, Recovering, Testing, Tracing, come_to, kept_walk, IsDiagnosisOf, IsDiagnosisAt, IsRecoveryOf, IsRecoveryAt, IsTestOf, IsTestAt, IsWindowOf, IsTracingAt, IsOn, IsKeptOf}
use Rattle.lv_session_state.specs.State.{SessionState, facts_of, aim_of, test_aim_of, window_base, window_facts, walked, recovery, testing, tracing, walk_of, trials, asked, sum_of, with_more, more, more_by, more_recovery_by, more_test_by, more_window_by, is_asked, last_step, is_settled, is_settled_by}
use Rattle.lv_session_state.specs.States.{IsStateOf, IsListOf}
use Rattle.lv_session_state.proofs.Listed.{list_of, all_trials}
use Rattle.lv_session_state.proofs.Asking.{has_run}
use Rattle.lv_session_state.proofs.RecoveriesAsked.{few_recovered, recovery_trials, recovery_has_run}
use Rattle.lv_session_state.proofs.TestsAsked.{few_tested, test_trials, test_has_run}
use Rattle.lv_session_state.proofs.WindowsAsked.{few_traced, window_trials, last_list_of, window_has_run}

-- which query is current plays no part in what a query comes to
pub of_other_query : (q other : Query) (plant : Plant) (state : SessionState) (r : Running) → IsKeptOf q plant state r → IsKeptOf q plant (record state { query = other }) r
unfolding walked recovery testing tracing
of_other_query Absent other plant state r is = tt
of_other_query (Diagnosis sum) other plant state (kept.Diagnosis d) is = record { on = is.on; came_to = is.came_to }
of_other_query (Recovery sum) other plant state (kept.Recovery d) is = record { on = is.on; came_to = is.came_to }
of_other_query (Test x sum) other plant state (kept.Test t) is = record { on = is.on; came_to = is.came_to }
of_other_query (Window steps sum) other plant state (kept.Window w) is = record { on = is.on; came_to = is.came_to }
of_other_query q other plant state r is = absurd is

-- what is kept of the current query has come to what its walk comes to
pub came_to : (q : Query) (plant : Plant) (state : SessionState) (r : Running) → is_asked q ≡ true → IsKeptOf q plant state r → walk_of q plant state ≡ kept_walk r
came_to Absent plant state r current is = absurd (cc current)
came_to (Diagnosis sum) plant state (kept.Diagnosis d) current is = is.came_to
came_to (Recovery sum) plant state (kept.Recovery d) current is = is.came_to
came_to (Test x sum) plant state (kept.Test t) current is = is.came_to
came_to (Window steps sum) plant state (kept.Window w) current is = is.came_to
came_to q plant state r current is = absurd is

-- the same where the query is known to be a diagnosis or a recovery
module _ (q : Query) (plant : Plant) (state : SessionState) (r : Running) (sum : ℕ) where
  pub diagnosis_came_to : q ≡ Diagnosis sum → IsKeptOf q plant state r → walked plant state sum ≡ kept_walk r
  diagnosis_came_to asked at = came_to (Diagnosis sum) plant state r refl (subst (λ (x : Query). IsKeptOf x plant state r) asked at)

  pub recovery_came_to : q ≡ Recovery sum → IsKeptOf q plant state r → recovery plant state sum ≡ kept_walk r
  recovery_came_to asked at = came_to (Recovery sum) plant state r refl (subst (λ (x : Query). IsKeptOf x plant state r) asked at)

-- for a recovery some goal is held
pub some_goal : (plant : Plant) (state : SessionState) (sum : ℕ) (r : Running) → IsKeptOf (Recovery sum) plant state r → 1 ≤ length state.goals
some_goal plant state sum (kept.Recovery r) is = is.on.some
some_goal plant state sum r is = absurd is

-- what is kept is on the walk of the query with more trials
pub goes_on : (q : Query) (n : ℕ) (plant : Plant) (state : SessionState) (r : Running) → is_asked q ≡ true → IsKeptOf q plant state r → IsOn (with_more q n) plant state r
goes_on Absent n plant state r current is = absurd (cc current)
goes_on (Diagnosis sum) n plant state (kept.Diagnosis d) current is = is.on
goes_on (Recovery sum) n plant state (kept.Recovery d) current is = is.on
goes_on (Test x sum) n plant state (kept.Test t) current is = is.on
goes_on (Window steps sum) n plant state (kept.Window w) current is = is.on
goes_on q n plant state r current is = absurd is

-- a search on the walk of a query has run to where it ends
pub ran_to : (q : Query) (plant : Plant) (state : SessionState) (old new : Running) → IsOn q plant state old → IsKeptOf q plant state new → walk_of q plant state ≡ kept_walk new
ran_to Absent plant state old new on is = absurd on
ran_to (Diagnosis sum) plant state old (kept.Diagnosis d) on is = is.came_to
ran_to (Recovery sum) plant state old (kept.Recovery d) on is = is.came_to
ran_to (Test x sum) plant state old (kept.Test t) on is = is.came_to
ran_to (Window steps sum) plant state old (kept.Window w) on is = is.came_to
ran_to q plant state old new on is = absurd is

-- a query that isn't settled is asked with more trials
pub more_asks : (q : Query) (n : ℕ) (plant : Plant) (state : SessionState) → is_asked q ≡ true → (walk_of q plant state).outcome ≡ Unsettled → asked (with_more q n) plant state ≡ more q plant state n
more_asks Absent n plant state current unsettled = absurd (cc current)
more_asks (Diagnosis sum) n plant state current unsettled = sym (ap (λ (o : Outcome). more_by o plant state (sum + n)) unsettled)
more_asks (Recovery sum) n plant state current unsettled = sym (ap (λ (o : Outcome). more_recovery_by o plant state (sum + n)) unsettled)
more_asks (Test x sum) n plant state current unsettled = sym (ap (λ (o : Outcome). more_test_by o plant state x (sum + n)) unsettled)
more_asks (Window steps sum) n plant state current unsettled = sym (ap (λ (o : Outcome). more_window_by o plant state steps (sum + n)) unsettled)

few_listed : (q : Query) (plant : Plant) (state : SessionState) → is_well_formed plant ≡ true → IsStateOf plant state → length (walk_of q plant state).listed ≤ TRACKED
few_listed Absent plant state h is = omega arith
few_listed (Diagnosis sum) plant state h is = (list_of plant state h is sum).few
few_listed (Recovery sum) plant state h is = let few = few_recovered plant state sum in omega (arith, few)
few_listed (Test x sum) plant state h is = let few = few_tested plant state x sum in omega (arith, few)
few_listed (Window steps sum) plant state h is = few_traced plant state h is steps sum

-- a walk that isn't settled made as many trials as it may
all_tried : (q : Query) (plant : Plant) (state : SessionState) → is_asked q ≡ true → (walk_of q plant state).outcome ≡ Unsettled → trials (walk_of q plant state) ≡ sum_of q
all_tried Absent plant state current unsettled = absurd (cc current)
all_tried (Diagnosis sum) plant state current unsettled = all_trials plant state sum unsettled
all_tried (Recovery sum) plant state current unsettled = recovery_trials plant state sum unsettled
all_tried (Test x sum) plant state current unsettled = test_trials plant state x sum unsettled
all_tried (Window steps sum) plant state current unsettled = window_trials plant state steps sum unsettled

sum_with_more : (q : Query) (n : ℕ) → is_asked q ≡ true → sum_of (with_more q n) ≡ sum_of q + n
sum_with_more Absent n current = absurd (cc current)
sum_with_more (Diagnosis sum) n current = refl
sum_with_more (Recovery sum) n current = refl
sum_with_more (Test x sum) n current = refl
sum_with_more (Window steps sum) n current = refl

-- all trials made before and those to come are the query's, and fit
pub record HasRoom (q : Query) (r : Running) (n : ℕ) : Type 0 where
  pub sum : trials (kept_walk r) + n ≡ sum_of (with_more q n)
  pub room : trials (kept_walk r) + n < 2 ^ 64
  pub query : sum_of q + n < 2 ^ 64

unsettled_by : (o : Outcome) → is_settled_by o ≡ false → o ≡ Unsettled
unsettled_by Settled goes = absurd (cc goes)
unsettled_by Unsettled goes = refl

-- a query that isn't settled has come to a walk that isn't
pub walks_on : (q : Query) (plant : Plant) (state : SessionState) → is_settled q plant state ≡ false → (walk_of q plant state).outcome ≡ Unsettled
walks_on Absent plant state goes = refl
walks_on (Diagnosis sum) plant state goes = unsettled_by (walked plant state sum).outcome goes
walks_on (Recovery sum) plant state goes = unsettled_by (recovery plant state sum).outcome goes
walks_on (Test x sum) plant state goes = unsettled_by (testing plant state x sum).outcome goes
walks_on (Window steps sum) plant state goes = unsettled_by (tracing plant state steps sum).outcome goes

pub has_room : (q : Query) (plant : Plant) (state : SessionState) (r : Running) (n made : ℕ) → is_well_formed plant ≡ true → IsStateOf plant state → is_asked q ≡ true → IsKeptOf q plant state r
    → (kept_walk r).outcome ≡ Unsettled → made ≡ trials (kept_walk r) → (length (kept_walk r).listed ≤ TRACKED → made + BUDGET < 2 ^ 64) → n ≤ BUDGET → HasRoom q r n
has_room q plant state r n made h is current at unsettled made_is fits few =
    let came = came_to q plant state r current at in
    let tried : trials (kept_walk r) ≡ sum_of q = ap trials (sym came) ∙ all_tried q plant state current (ap (λ (w : Walked). w.outcome) came ∙ unsettled) in
    let left = fits (subst (λ (w : Walked). length w.listed ≤ TRACKED) came (few_listed q plant state h is)) in
    let whole = sum_with_more q n current in
    record { sum = omega (arith, tried, whole); room = omega (arith, made_is, left, few); query = omega (arith, made_is, tried, left, few) }

-- what a settled query lists can be taken over
module _ (plant : Plant) (state : SessionState) (r : Running) (sum : ℕ) (h : is_well_formed plant ≡ true) (is : IsStateOf plant state) where
  pub diagnosis_listed : (q : Query) → q ≡ Diagnosis sum → IsKeptOf q plant state r → IsListOf plant state (kept_walk r).listed
  diagnosis_listed q asked at = subst (λ (w : Walked). IsListOf plant state w.listed) (diagnosis_came_to q plant state r sum asked at) (list_of plant state h is sum)

  pub window_listed : (q : Query) (steps : ℕ) → q ≡ Window steps sum → IsKeptOf q plant state r → IsListOf plant state (map (last_step plant) (kept_walk r).listed)
  window_listed q steps asked at =
      subst (λ (w : Walked). IsListOf plant state (map (last_step plant) w.listed)) (came_to (Window steps sum) plant state r refl (subst (λ (x : Query). IsKeptOf x plant state r) asked at))
      (last_list_of plant state h is steps sum)

-- the search that is kept of a query runs on
module _ (plant : Plant) (state : SessionState) (n : ℕ) where
  pub diagnosis_suits : (q : Query) (old : Box Diagnosed Global) (run : Diagnosed) → IsOn q plant state (kept.Diagnosis old) → run ≡ old.value → all_suit (is_full_choice run.query.plant) run.query.standing ≡ true
  diagnosis_suits (Diagnosis sum) old run on run_is = subst (λ (d : Diagnosed). all_suit (is_full_choice d.query.plant) d.query.standing ≡ true) (sym run_is) on.on_walk.suit
  diagnosis_suits q old run on run_is = absurd on

  pub diagnosis_ran : (q : Query) (old new : Box Diagnosed Global) (run : Diagnosed) (later : QueryValue) (o : Outcome) → IsOn q plant state (kept.Diagnosis old) → trials (kept_walk (kept.Diagnosis old)) + n ≡ sum_of q
      → run ≡ old.value → ((tracked : List TrackedState) → IsQueryOf tracked run.query → IsQueryOf tracked later)
      → ((tracked : List TrackedState) → IsQueryOf tracked run.query
      → diagnosis_walk run.query.plant run.query.facts run.query.standing.k run.query.distinct (trials_of run.query.standing + n) (candidates run.query.plant tracked) ≡ come_to o later.standing)
      → later.plant ≡ run.query.plant → later.facts ≡ run.query.facts → later.standing.k ≡ run.query.standing.k → later.distinct ≡ run.query.distinct
      → new.value ≡ record run { query = later; outcome = o } → IsKeptOf q plant state (kept.Diagnosis new)
  diagnosis_ran (Diagnosis sum) old new run later o on made run_is query walk plant_same facts_same k_same distinct_same new_is =
      let own : IsDiagnosisOf plant (facts_of state) state.k state.distinct state.tracked run.query =
      subst (λ (d : Diagnosed). IsDiagnosisOf plant (facts_of state) state.k state.distinct state.tracked d.query) (sym run_is) on in
      subst (IsDiagnosisAt plant state sum) (sym new_is)
      (has_run plant state n sum run.query later o run.spare own (ap (λ (d : Diagnosed). trials_of d.query.standing + n) run_is ∙ made) (query state.tracked own.on_walk) (walk state.tracked own.on_walk)
      plant_same facts_same k_same distinct_same)
  diagnosis_ran q old new run later o on made run_is query walk plant_same facts_same k_same distinct_same new_is = absurd on

  pub recovery_suits : (q : Query) (old : Box Recovering Global) (run : Recovering) → IsOn q plant state (kept.Recovery old) → run ≡ old.value → all_suit (candidate_commands run.query.plant) run.query.standing ≡ true
  recovery_suits (Recovery sum) old run on run_is = subst (λ (d : Recovering). all_suit (candidate_commands d.query.plant) d.query.standing ≡ true) (sym run_is) on.on_walk.suit
  recovery_suits q old run on run_is = absurd on

  pub recovery_ran : (q : Query) (old new : Box Recovering Global) (run : Recovering) (later : RecoveryValue) (o : Outcome) → IsOn q plant state (kept.Recovery old) → trials (kept_walk (kept.Recovery old)) + n ≡ sum_of q
      → run ≡ old.value → (IsRecoveryQuery run.query → IsRecoveryQuery later)
      → (IsRecoveryQuery run.query → recovery_walk run.query.plant run.query.aim (trials_of run.query.standing + n) ≡ come_to o later.standing)
      → later.plant ≡ run.query.plant → later.aim ≡ run.query.aim → new.value ≡ record run { query = later; outcome = o } → IsKeptOf q plant state (kept.Recovery new)
  recovery_ran (Recovery sum) old new run later o on made run_is query walk plant_same aim_same new_is =
      let own : IsRecoveryOf plant (aim_of state) state.goals run.query = subst (λ (d : Recovering). IsRecoveryOf plant (aim_of state) state.goals d.query) (sym run_is) on in
      subst (IsRecoveryAt plant state sum) (sym new_is)
      (recovery_has_run plant state n sum run.query later o run.spare own (ap (λ (d : Recovering). trials_of d.query.standing + n) run_is ∙ made) (query own.on_walk) (walk own.on_walk) plant_same aim_same)
  recovery_ran q old new run later o on made run_is query walk plant_same aim_same new_is = absurd on

  pub test_suits : (q : Query) (old : Box Testing Global) (run : Testing) → IsOn q plant state (kept.Test old) → run ≡ old.value → all_suit (candidate_commands run.query.plant) run.query.standing ≡ true
  test_suits (Test x sum) old run on run_is = subst (λ (d : Testing). all_suit (candidate_commands d.query.plant) d.query.standing ≡ true) (sym run_is) on.on_walk.suit
  test_suits q old run on run_is = absurd on

  pub test_ran : (q : Query) (old new : Box Testing Global) (run : Testing) (later : TestValue) (o : Outcome) → IsOn q plant state (kept.Test old) → trials (kept_walk (kept.Test old)) + n ≡ sum_of q
      → run ≡ old.value → (IsTestQuery run.query → IsTestQuery later)
      → (IsTestQuery run.query → test_walk run.query.plant run.query.aim run.query.var (trials_of run.query.standing + n) ≡ come_to o later.standing)
      → later.plant ≡ run.query.plant → later.aim ≡ run.query.aim → later.var ≡ run.query.var → new.value ≡ record run { query = later; outcome = o } → IsKeptOf q plant state (kept.Test new)
  test_ran (Test x sum) old new run later o on made run_is query walk plant_same aim_same var_same new_is =
      let own : IsTestOf plant (test_aim_of state) x run.query = subst (λ (d : Testing). IsTestOf plant (test_aim_of state) x d.query) (sym run_is) on in
      subst (IsTestAt plant state x sum) (sym new_is)
      (test_has_run plant state x n sum run.query later o run.spare own (ap (λ (d : Testing). trials_of d.query.standing + n) run_is ∙ made) (query own.on_walk) (walk own.on_walk) plant_same aim_same var_same)
  test_ran q old new run later o on made run_is query walk plant_same aim_same var_same new_is = absurd on

  pub window_suits : (q : Query) (old : Box Tracing Global) (run : Tracing) → IsOn q plant state (kept.Window old) → run ≡ old.value
      → all_suit (is_full_window run.query.plant (length run.query.steps)) run.query.standing ≡ true
  window_suits (Window steps sum) old run on run_is = subst (λ (d : Tracing). all_suit (is_full_window d.query.plant (length d.query.steps)) d.query.standing ≡ true) (sym run_is) on.on_walk.suit
  window_suits q old run on run_is = absurd on

  pub window_ran : (q : Query) (old new : Box Tracing Global) (run : Tracing) (later : WindowQueryValue) (o : Outcome) → IsOn q plant state (kept.Window old) → trials (kept_walk (kept.Window old)) + n ≡ sum_of q
      → run ≡ old.value → ((tracked : List TrackedState) → IsWindowQueryOf tracked run.query → IsWindowQueryOf tracked later)
      → ((tracked : List TrackedState) → IsWindowQueryOf tracked run.query
      → window_walk run.query.plant run.query.steps run.query.standing.k (trials_of run.query.standing + n) (trajectories run.query.plant (length run.query.steps) tracked) ≡ come_to o later.standing)
      → later.plant ≡ run.query.plant → later.steps ≡ run.query.steps → later.standing.k ≡ run.query.standing.k → new.value ≡ record run { query = later; outcome = o } → IsKeptOf q plant state (kept.Window new)
  window_ran (Window steps sum) old new run later o on made run_is query walk plant_same steps_same k_same new_is =
      let own : IsWindowOf plant (window_facts state steps) state.k (window_base state steps) run.query =
      subst (λ (d : Tracing). IsWindowOf plant (window_facts state steps) state.k (window_base state steps) d.query) (sym run_is) on in
      subst (IsTracingAt plant state steps sum) (sym new_is)
      (window_has_run plant state steps n sum run.query later o run.spare own (ap (λ (d : Tracing). trials_of d.query.standing + n) run_is ∙ made) (query (window_base state steps) own.on_walk)
      (walk (window_base state steps) own.on_walk) plant_same steps_same k_same)
  window_ran q old new run later o on made run_is query walk plant_same steps_same k_same new_is = absurd on
