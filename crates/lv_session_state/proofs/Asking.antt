-- What a diagnosis of the state needs, and what its walk says of the current query.
use Rattle.std.proofs.Common.{◌≡◌, ℕ, zero, suc, ◌+◌, ◌<◌, ◌≤◌, Bool, true, List, [], ◌∷◌, length, map, sym, ◌∙◌, arith, All, Option}
use Rattle.std.proofs.lemmas.List.Elements.{All-cons, All-append, All-head, All-tail, All-nil}
use Rattle.lv_system.specs.lv_clauses.ClauseMap.{ClauseMap}
use Rattle.lv_base.specs.declared.limits.TheConstants.{COMMITS}
use Rattle.lv_model.specs.declared.plant.Plant.{Plant}
use Rattle.lv_model.specs.declared.state.TrackedState.{TrackedState}
use Rattle.lv_base.specs.declared.range.Range.{Range}
use Rattle.lv_base.specs.Fits.{has_value}
use Rattle.lv_model.specs.Lists.{sizes, controls, variable_count}
use Rattle.lv_model.specs.Ranges.{plant_ranges}
use Rattle.lv_model.proofs.Reading.{length-plant_ranges}
use Rattle.lv_meaning.specs.Facts.{HasValue, FactsInRange, commanded, IsInRange, FactsFit}
use Rattle.lv_model_names.proofs.ScopeLemmas.{below_size}
use Rattle.lv_boxes.specs.declared.outcome.Outcome.{Outcome}
use Rattle.lv_meaning.specs.declared.facts.Facts.{Facts}
use Rattle.lv_meaning.specs.Candidates.{IsTracked, candidates}
use Rattle.lv_meaning.specs.Diagnosis.{diagnosis_walk}
use Rattle.lv_ident.specs.lv_search.Standing.{trials_of}
use Rattle.lv_ident.specs.Query.{QueryValue, IsQueryOf}
use Rattle.lv_tracker.specs.Tracked.{HasModes}
use Rattle.lv_session_request.specs.declared.request.Sighting.{Sighting}
use Rattle.lv_session_request.specs.Requests.{IsSightingIn}
use Rattle.lv_session_state.specs.Current.{come_to, IsDiagnosisOf, IsDiagnosisAt}
use Rattle.lv_session_request.specs.Held.{observation_of}
use Rattle.lv_session_state.specs.State.{SessionState, facts_of, walked}
use Rattle.lv_session_history.specs.Pasts.{StateCosts}
use Rattle.lv_session_state.specs.States.{IsStateOf}

has_variable : (ranges : List Range) (x v : ℕ) → has_value ranges x v ≡ true → x < length ranges
has_variable [] x v h = absurd (cc h)
has_variable (r ∷ rs) zero v h = omega arith
has_variable (r ∷ rs) (suc x) v h = let rest = has_variable rs x v h in omega (arith, rest)

pub observed_in_range : (plant : Plant) (ss : List Sighting) → All (IsSightingIn plant) ss → All (IsInRange (variable_count plant)) (map observation_of ss)
observed_in_range plant [] all = All-nil (IsInRange (variable_count plant))
observed_in_range plant (s ∷ ss) all =
    let has = has_variable (plant_ranges plant) s.var.0 s.val.0 (All-head (IsSightingIn plant) s ss all).value in
    let count = length-plant_ranges plant in
    All-cons (IsInRange (variable_count plant)) (observation_of s) (map observation_of ss) (record { below = omega (arith, has, count) })
    (observed_in_range plant ss (All-tail (IsSightingIn plant) s ss all))

pub observed_values : (plant : Plant) (ss : List Sighting) → All (IsSightingIn plant) ss → All (HasValue (sizes plant)) (map observation_of ss)
observed_values plant [] all = All-nil (HasValue (sizes plant))
observed_values plant (s ∷ ss) all =
    All-cons (HasValue (sizes plant)) (observation_of s) (map observation_of ss)
    (record { below = below_size (plant_ranges plant) s.var.0 s.val.0 (All-head (IsSightingIn plant) s ss all).value })
    (observed_values plant ss (All-tail (IsSightingIn plant) s ss all))

pub facts_fit : (plant : Plant) (state : SessionState) → IsStateOf plant state → FactsFit plant (facts_of state)
facts_fit plant state is = record {
  controls = is.controls_whole;
  present = observed_in_range plant state.present is.present;
  next = observed_in_range plant state.next is.next;
}

pub facts_in_range : (plant : Plant) (state : SessionState) → IsStateOf plant state → FactsInRange plant (facts_of state)
facts_in_range plant state is = record {
  now = All-append (HasValue (sizes plant)) (commanded (controls plant) state.controls) (map observation_of state.present) is.values (observed_values plant state.present is.present);
  next = observed_values plant state.next is.next;
}

pub tracked_from : (parts time : ℕ) (ss : List TrackedState) → time ≤ COMMITS → All (HasModes parts) ss → All (StateCosts time) ss → All (IsTracked parts) ss
tracked_from parts time [] early modes costs = All-nil (IsTracked parts)
tracked_from parts time (s ∷ ss) early modes costs =
    let most = (All-head (StateCosts time) s ss costs).most in
    All-cons (IsTracked parts) s ss (record { modes = (All-head (HasModes parts) s ss modes).modes; cost = omega arith })
    (tracked_from parts time ss early (All-tail (HasModes parts) s ss modes) (All-tail (StateCosts time) s ss costs))

-- the walk of these facts is that of the state which they are of
pub walked_at : (plant : Plant) (state : SessionState) (p : Plant) (f : Facts) (k : ℕ) (d : Bool) (m sum : ℕ) → p ≡ plant → f ≡ facts_of state → k ≡ state.k → d ≡ state.distinct → m ≡ sum
    → diagnosis_walk p f k d m (candidates p state.tracked) ≡ walked plant state sum
unfolding walked
walked_at plant state p f k d m sum plant_is facts_are k_is d_is m_is = λ i. diagnosis_walk (plant_is i) (facts_are i) (k_is i) (d_is i) (m_is i) (candidates (plant_is i) state.tracked)

-- a search on the walk of the state's diagnosis has run on
pub has_run : (plant : Plant) (state : SessionState) (n sum : ℕ) (old new : QueryValue) (o : Outcome) (spare : Option ClauseMap) → IsDiagnosisOf plant (facts_of state) state.k state.distinct state.tracked old → trials_of old.standing + n ≡ sum
    → IsQueryOf state.tracked new
    → diagnosis_walk old.plant old.facts old.standing.k old.distinct (trials_of old.standing + n) (candidates old.plant state.tracked) ≡ come_to o new.standing
    → new.plant ≡ old.plant → new.facts ≡ old.facts → new.standing.k ≡ old.standing.k → new.distinct ≡ old.distinct → IsDiagnosisAt plant state sum (record { query = new; outcome = o; spare = spare })
has_run plant state n sum old new o spare is sum_is on walk plant_same facts_same k_same d_same = record {
  on = record {
    plant_is = plant_same ∙ is.plant_is;
    facts_are = facts_same ∙ is.facts_are;
    k_is = k_same ∙ is.k_is;
    distinct_is = d_same ∙ is.distinct_is;
    on_walk = on;
  };
  came_to = sym (walked_at plant state old.plant old.facts old.standing.k old.distinct (trials_of old.standing + n) sum is.plant_is is.facts_are is.k_is is.distinct_is sum_is) ∙ walk;
}
