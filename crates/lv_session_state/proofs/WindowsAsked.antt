-- What a window of the last steps needs, and what its walk says of the current query.
use Rattle.std.proofs.Common.{◌≡◌, ℕ, zero, suc, ◌+◌, ◌-◌, ◌*◌, ◌≤◌, Bool, true, false, cond, nat_lt, List, [], ◌∷◌, length, drop, map, refl, sym, ◌∙◌, subst, arith, All, Option}
use Rattle.std.proofs.lemmas.Bool.{ltb-true, ltb-false}
use Rattle.std.proofs.lemmas.List.{length-append, length-map, length-drop}
use Rattle.std.proofs.lemmas.List.Elements.{All-cons, All-append, All-map, All-nil, Contains-get_or}
use Rattle.lv_system.specs.lv_clauses.ClauseMap.{ClauseMap}
use Rattle.lv_base.specs.declared.ids.ValId.{ValId}
use Rattle.lv_base.specs.declared.limits.TheConstants.{TRACKED, COMMITS, PARTS, FAULT_COST}
use Rattle.lv_base.specs.declared.rank.Rank.{Rank}
use Rattle.lv_model.specs.declared.plant.Plant.{Plant}
use Rattle.lv_model.specs.Lists.{sizes, controls}
use Rattle.lv_model.specs.WellFormed.{is_well_formed}
use Rattle.lv_model.proofs.Reading.{All-at, few-parts}
use Rattle.lv_model.proofs.Sizes.{small-types}
use Rattle.lv_boxes.specs.declared.outcome.Outcome.{Outcome}
use Rattle.lv_boxes.specs.declared.outcome.Outcome.TheVariants.{Unsettled}
use Rattle.lv_boxes.specs.Walk.{none_alike}
use Rattle.lv_boxes.proofs.WalkLemmas.{at_most, used_up_unsettled}
use Rattle.lv_ident.specs.lv_search.Standing.{trials_of}
use Rattle.lv_meaning.specs.declared.facts.Facts.{Facts}
use Rattle.lv_meaning.specs.Candidates.{IsTracked}
use Rattle.lv_meaning.specs.CandidateLaws.{moves_cost}
use Rattle.lv_meaning.specs.Facts.{commanded, HasValue}
use Rattle.lv_tracker.specs.Targets.{HasMoves}
use Rattle.lv_tracker.specs.Tracked.{HasModes}
use Rattle.lv_session_request.specs.Held.{observation_of}
use Rattle.lv_session_request.specs.Requests.{IsSightingIn}
use Rattle.lv_session_request.specs.declared.request.Sighting.{Sighting}
use Rattle.lv_session_history.specs.declared.history.Past.{Past}
use Rattle.lv_session_history.specs.declared.history.TheConstants.{HISTORY}
use Rattle.lv_session_history.specs.History.{commits_in}
use Rattle.lv_session_history.specs.Steps.{tracked_before, observed_before, facts_of_step, facts_on}
use Rattle.lv_session_history.specs.Pasts.{most_cost, StateCosts, ArePastOf, kept_before}
use Rattle.lv_window.specs.Laws.{JoinUp, all_choices, all_cost, IsTrajectory}
use Rattle.lv_window.specs.Possible.{is_possible_trajectory}
use Rattle.lv_window.specs.Trajectories.{trajectories}
use Rattle.lv_window.specs.Walk.{window_reason, window_walk}
use Rattle.lv_window.proofs.TrajectoryLemmas.{trajectory_is}
use Rattle.lv_window.specs.Known.{StepFits}
use Rattle.lv_system.specs.lv_compile.declared.windows.TheConstants.{WINDOW}
use Rattle.lv_window.specs.Query.{WindowQueryValue, IsWindowQueryOf}
use Rattle.lv_session_state.specs.Current.{come_to, IsWindowOf, IsTracingAt}
use Rattle.lv_session_state.specs.State.{SessionState, facts_of, window_base, window_facts, window_start, tracing, trials, last_step}
use Rattle.lv_session_state.specs.States.{RankCosts, IsStateOf, IsListOf}
use Rattle.lv_session_state.proofs.Asking.{observed_in_range, observed_values, facts_fit, facts_in_range, tracked_from}
use Rattle.lv_session_state.proofs.Listed.{listed_all, move_for_each, cheap_moves, IsReady}

-- what is known of the steps

step_fits : (plant : Plant) (values : List ValId) (present next : List Sighting) → length values ≡ length (controls plant) → All (HasValue (sizes plant)) (commanded (controls plant) values)
    → All (IsSightingIn plant) present → All (IsSightingIn plant) next
    → StepFits plant (record { controls = values; present = map observation_of present; next = map observation_of next })
step_fits plant values present next whole own now later = record {
  fit = record { controls = whole; present = observed_in_range plant present now; next = observed_in_range plant next later };
  in_range = record {
    now = All-append (HasValue (sizes plant)) (commanded (controls plant) values) (map observation_of present) own (observed_values plant present now);
    next = observed_values plant next later;
  };
}

module _ (plant : Plant) (present : List Sighting) (last : Facts) (now : All (IsSightingIn plant) present) (fits : StepFits plant last) where
  observed_fits : (time : ℕ) (ps : List Past) → ArePastOf plant time ps → All (IsSightingIn plant) (observed_before ps present)
  observed_fits time [] are = now
  observed_fits time (p ∷ ps) are = are.0.observed

  steps_fit : (time : ℕ) (ps : List Past) → ArePastOf plant time ps → All (StepFits plant) (facts_on ps present last)
  steps_fit time [] are = All-cons (StepFits plant) last [] fits (All-nil (StepFits plant))
  steps_fit time (p ∷ ps) are =
      let is = are.0 in
      All-cons (StepFits plant) (facts_of_step p (observed_before ps present)) (facts_on ps present last)
      (step_fits plant p.controls p.observed (observed_before ps present) is.controls_whole is.values is.observed (observed_fits (time + 1) ps are.1))
      (steps_fit (time + 1) ps are.1)

-- a step for each commit, and the one that isn't committed
many_steps : (ps : List Past) (present : List Sighting) (last : Facts) → length (facts_on ps present last) ≡ length ps + 1
many_steps [] present last = refl
many_steps (p ∷ ps) present last = let rest = many_steps ps present last in omega (arith, rest)

-- the later ones of the commits
kept_from : (plant : Plant) (time n : ℕ) (ps : List Past) → ArePastOf plant time ps → ArePastOf plant (time + n) (drop n ps)
kept_from plant time zero ps are = let same : time ≡ time + 0 = omega arith in subst (λ t. ArePastOf plant t ps) same are
kept_from plant time (suc n) [] are = tt
kept_from plant time (suc n) (p ∷ ps) are =
    let same : time + 1 + n ≡ time + suc n = omega arith in
    subst (λ t. ArePastOf plant t (drop n ps)) same (kept_from plant (time + 1) n ps are.1)

few_kept : (time : ℕ) → (kept_before time ≤ HISTORY) × (kept_before time ≤ time)
few_kept time = by (nat_lt time HISTORY) refl
  where
    by : (b : Bool) → nat_lt time HISTORY ≡ b → (cond b time HISTORY ≤ HISTORY) × (cond b time HISTORY ≤ time)
    by true e = let less = ltb-true time HISTORY e in (omega (arith, less), omega arith)
    by false e = let most = ltb-false time HISTORY e in (omega arith, omega (arith, most))

module _ (plant : Plant) (state : SessionState) (is : IsStateOf plant state) (steps : ℕ) where
  -- of these commits something is kept
  are_kept : ArePastOf plant (state.time - length state.history + (length state.history + 1 - steps)) (commits_in state.history steps)
  are_kept = kept_from plant (state.time - length state.history) (length state.history + 1 - steps) state.history is.history.each

  how_many : length (commits_in state.history steps) ≡ length state.history - (length state.history + 1 - steps)
  how_many = length-drop (length state.history + 1 - steps) state.history

  few_before : (length state.history ≤ HISTORY) × (length state.history ≤ state.time)
  few_before = subst (λ n. (n ≤ HISTORY) × (n ≤ state.time)) (sym is.history.many) (few_kept state.time)

  pub window_fits : All (StepFits plant) (window_facts state steps)
  window_fits =
      steps_fit plant state.present (facts_of state) is.present (record { fit = facts_fit plant state is; in_range = facts_in_range plant state is })
      (state.time - length state.history + (length state.history + 1 - steps)) (commits_in state.history steps) are_kept

  many_facts : length (window_facts state steps) ≡ length (commits_in state.history steps) + 1
  many_facts = many_steps (commits_in state.history steps) state.present (facts_of state)

  pub some_steps : 1 ≤ length (window_facts state steps)
  some_steps = let many = many_facts in omega (arith, many)

  pub few_steps : length (window_facts state steps) ≤ WINDOW
  few_steps = let many = many_facts in let left = how_many in let few = few_before.0 in omega (arith, many, left, few)

  base_costs : All (StateCosts (window_start state steps)) (window_base state steps)
  base_costs = by (commits_in state.history steps) how_many are_kept
    where
      by : (ps : List Past) → length ps ≡ length state.history - (length state.history + 1 - steps) → ArePastOf plant (state.time - length state.history + (length state.history + 1 - steps)) ps
          → All (StateCosts (state.time - length ps)) (tracked_before ps state.tracked)
      by [] long are = let same : state.time ≡ state.time - 0 = omega arith in subst (λ t. All (StateCosts t) state.tracked) same is.costs
      by (p ∷ ps) long are =
          let early = few_before.1 in
          let same : state.time - length state.history + (length state.history + 1 - steps) ≡ state.time - length (p ∷ ps) = omega (arith, long, early) in
          subst (λ t. All (StateCosts t) p.tracked) same are.0.costs

  base_modes : All (HasModes (length plant.parts)) (window_base state steps)
  base_modes = by (commits_in state.history steps) are_kept
    where
      by : (ps : List Past) → ArePastOf plant (state.time - length state.history + (length state.history + 1 - steps)) ps → All (HasModes (length plant.parts)) (tracked_before ps state.tracked)
      by [] are = is.modes
      by (p ∷ ps) are = are.0.modes

  pub base_fits : All (IsTracked (length plant.parts)) (window_base state steps)
  base_fits =
      let early = is.time in
      let start : window_start state steps ≤ COMMITS = omega (arith, early) in
      tracked_from (length plant.parts) (window_start state steps) (window_base state steps) start base_modes base_costs

-- what a window lists can be taken over

costs_of : (plant : Plant) → is_well_formed plant ≡ true → (moves : List (List ℕ)) → all_cost plant moves ≤ most_cost (length moves)
costs_of plant h [] = omega arith
costs_of plant h (cs ∷ rest) =
    let one : moves_cost plant.types plant.parts cs ≤ FAULT_COST * length plant.parts = cheap_moves plant.types plant.parts cs (small-types plant h) in
    let few : length plant.parts ≤ PARTS = few-parts plant h in
    let others : all_cost plant rest ≤ most_cost (length rest) = costs_of plant h rest in
    omega (arith, one, few, others)

last_full : (plant : Plant) (modes : List ValId) (moves : List (List ℕ)) → JoinUp plant modes moves → 1 ≤ length moves
    → length (drop (length (all_choices moves) - length plant.parts) (all_choices moves)) ≡ length plant.parts
last_full plant modes [] join some = absurd (omega (arith, some))
last_full plant modes (cs ∷ rest) join some =
    let first : length cs ≡ length plant.parts = move_for_each plant.types plant.parts modes cs join.0 in
    let all = length-append cs (all_choices rest) in
    let left = length-drop (length (all_choices (cs ∷ rest)) - length plant.parts) (all_choices (cs ∷ rest)) in
    omega (arith, first, all, left)

module _ (plant : Plant) (state : SessionState) (h : is_well_formed plant ≡ true) (is : IsStateOf plant state) (steps : ℕ) where
  ready : (r : Rank) → IsTrajectory plant (length (window_facts state steps)) (window_base state steps) r → IsReady plant (state.time + 1) (last_step plant r)
  ready r t =
      let own : StateCosts (window_start state steps) t.state = All-at (StateCosts (window_start state steps)) (window_base state steps) r.source t.state (base_costs plant state is steps) t.source in
      let most = own.most in
      let moved = costs_of plant h t.moves in
      let many = many_facts plant state is steps in
      let left = how_many plant state is steps in
      let early = (few_before plant state is steps).1 in
      let number = t.many in
      let cost = t.cost in
      let some : 1 ≤ length t.moves = omega (arith, number, many) in
      record {
        moves = record { moves = subst (λ (cs : List ℕ). length (drop (length cs - length plant.parts) cs) ≡ length plant.parts) (sym t.choices) (last_full plant t.state.state.modes t.moves t.join some) };
        costs = record { most = omega (arith, most, moved, many, left, early, number, cost) };
      }

  all_ready : All (λ (r : Rank). IsReady plant (state.time + 1) (last_step plant r)) (trajectories plant (length (window_facts state steps)) (window_base state steps))
  all_ready i d below =
      ready _ (trajectory_is plant (length (window_facts state steps)) (window_base state steps) _ (Contains-get_or (trajectories plant (length (window_facts state steps)) (window_base state steps)) i d below))

  each_ready : (n : ℕ) → All (λ (r : Rank). IsReady plant (state.time + 1) (last_step plant r)) (tracing plant state steps n).listed
  unfolding tracing
  each_ready n =
      listed_all (λ (r : Rank). IsReady plant (state.time + 1) (last_step plant r)) none_alike (is_possible_trajectory plant (window_facts state steps)) (window_reason plant (window_facts state steps)) state.k n
      (trajectories plant (length (window_facts state steps)) (window_base state steps)) [] [] (All-nil (λ (r : Rank). IsReady plant (state.time + 1) (last_step plant r))) all_ready

  pub few_traced : (n : ℕ) → length (tracing plant state steps n).listed ≤ TRACKED
  unfolding tracing
  few_traced n =
      let few : length (tracing plant state steps n).listed ≤ state.k =
      at_most none_alike (is_possible_trajectory plant (window_facts state steps)) (window_reason plant (window_facts state steps)) state.k n
      (trajectories plant (length (window_facts state steps)) (window_base state steps)) [] [] (omega arith) in
      let k = is.k.few in
      omega (arith, few, k)

  pub last_list_of : (n : ℕ) → IsListOf plant state (map (last_step plant) (tracing plant state steps n).listed)
  last_list_of n =
      let many = length-map (tracing plant state steps n).listed (last_step plant) in
      let few = few_traced n in
      record {
        few = omega (arith, many, few);
        moves = All-map (HasMoves (length plant.parts)) (last_step plant) (tracing plant state steps n).listed (λ i d below. (each_ready n i d below).moves);
        costs = All-map (RankCosts (state.time + 1)) (last_step plant) (tracing plant state steps n).listed (λ i d below. (each_ready n i d below).costs);
      }

-- a walk that isn't settled made as many trials as it may
pub window_trials : (plant : Plant) (state : SessionState) (steps n : ℕ) → (tracing plant state steps n).outcome ≡ Unsettled → trials (tracing plant state steps n) ≡ n
unfolding tracing
window_trials plant state steps n =
    used_up_unsettled none_alike (is_possible_trajectory plant (window_facts state steps)) (window_reason plant (window_facts state steps)) state.k n
    (trajectories plant (length (window_facts state steps)) (window_base state steps)) [] []

-- the walk of what is known of these steps is that of the state which they are of
traced_at : (plant : Plant) (state : SessionState) (steps : ℕ) (p : Plant) (known : List Facts) (k m sum : ℕ) → p ≡ plant → known ≡ window_facts state steps → k ≡ state.k → m ≡ sum
    → window_walk p known k m (trajectories p (length known) (window_base state steps)) ≡ tracing plant state steps sum
unfolding tracing
traced_at plant state steps p known k m sum plant_is known_is k_is m_is =
    λ i. window_walk (plant_is i) (known_is i) (k_is i) (m_is i) (trajectories (plant_is i) (length (known_is i)) (window_base state steps))

-- a search on the walk of the state's window has run on
pub window_has_run : (plant : Plant) (state : SessionState) (steps n sum : ℕ) (old new : WindowQueryValue) (o : Outcome) (spare : Option ClauseMap) → IsWindowOf plant (window_facts state steps) state.k (window_base state steps) old → trials_of old.standing + n ≡ sum
    → IsWindowQueryOf (window_base state steps) new
    → window_walk old.plant old.steps old.standing.k (trials_of old.standing + n) (trajectories old.plant (length old.steps) (window_base state steps)) ≡ come_to o new.standing
    → new.plant ≡ old.plant → new.steps ≡ old.steps → new.standing.k ≡ old.standing.k → IsTracingAt plant state steps sum (record { query = new; outcome = o; spare = spare })
window_has_run plant state steps n sum old new o spare is sum_is on walk plant_same steps_same k_same = record {
  on = record { plant_is = plant_same ∙ is.plant_is; steps_are = steps_same ∙ is.steps_are; k_is = k_same ∙ is.k_is; on_walk = on };
  came_to = sym (traced_at plant state steps old.plant old.steps old.standing.k (trials_of old.standing + n) sum is.plant_is is.steps_are is.k_is sum_is) ∙ walk;
}
