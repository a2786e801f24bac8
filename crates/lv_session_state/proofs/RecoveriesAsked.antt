-- What a recovery from the state needs, and what its walk says of the current query.
use Rattle.std.proofs.Common.{◌≡◌, ℕ, ◌+◌, ◌≤◌, List, [], ◌∷◌, length, map, sym, ◌∙◌, arith, All, Option}
use Rattle.std.proofs.lemmas.List.Elements.{All-cons, All-head, All-tail, All-nil}
use Rattle.lv_system.specs.lv_clauses.ClauseMap.{ClauseMap}
use Rattle.lv_model.specs.declared.plant.Plant.{Plant}
use Rattle.lv_boxes.specs.declared.outcome.Outcome.{Outcome}
use Rattle.lv_boxes.specs.declared.outcome.Outcome.TheVariants.{Unsettled}
use Rattle.lv_boxes.specs.Walk.{none_alike}
use Rattle.lv_boxes.proofs.WalkLemmas.{at_most, used_up_unsettled}
use Rattle.lv_ident.specs.lv_search.Standing.{trials_of}
use Rattle.lv_meaning.specs.declared.aim.Aim.{Aim}
use Rattle.lv_meaning.specs.Commands.{command_sets}
use Rattle.lv_meaning.specs.Ranges.{ObservationFits, GoalFits, AimFits}
use Rattle.lv_meaning.specs.Recovery.{candidate_recovers, candidate_reason, recovery_walk}
use Rattle.lv_reconf.specs.Query.{QueryValue, IsQuery}
use Rattle.lv_session_request.specs.declared.goals.Goal.{Goal}
use Rattle.lv_session_request.specs.declared.request.Sighting.{Sighting}
use Rattle.lv_session_request.specs.Goals.{IsGoalIn}
use Rattle.lv_session_request.specs.Requests.{IsSightingIn}
use Rattle.lv_session_state.specs.Current.{come_to, IsRecoveryOf, IsRecoveryAt}
use Rattle.lv_session_request.specs.Held.{observation_of}
use Rattle.lv_session_state.specs.State.{SessionState, formula_of, aim_of, recovery, trials}
use Rattle.lv_session_state.specs.States.{IsStateOf}

pub observations_fit : (plant : Plant) (ss : List Sighting) → All (IsSightingIn plant) ss → All (ObservationFits plant) (map observation_of ss)
observations_fit plant [] all = All-nil (ObservationFits plant)
observations_fit plant (s ∷ ss) all =
    All-cons (ObservationFits plant) (observation_of s) (map observation_of ss) (record { value = (All-head (IsSightingIn plant) s ss all).value })
    (observations_fit plant ss (All-tail (IsSightingIn plant) s ss all))

goals_fit : (plant : Plant) (gs : List Goal) → All (IsGoalIn plant) gs → All (GoalFits plant) (map formula_of gs)
goals_fit plant [] all = All-nil (GoalFits plant)
goals_fit plant (g ∷ gs) all =
    All-cons (GoalFits plant) (formula_of g) (map formula_of gs) (record { equations = (All-head (IsGoalIn plant) g gs all).fits })
    (goals_fit plant gs (All-tail (IsGoalIn plant) g gs all))

pub aim_fits : (plant : Plant) (state : SessionState) → IsStateOf plant state → AimFits plant (aim_of state)
aim_fits plant state is = record {
  tracked = is.fit;
  present = observations_fit plant state.present is.present;
  goals = goals_fit plant state.goals is.goals;
}

pub few_recovered : (plant : Plant) (state : SessionState) (n : ℕ) → length (recovery plant state n).listed ≤ 1
unfolding recovery
few_recovered plant state n = at_most none_alike (candidate_recovers plant (aim_of state)) (candidate_reason plant (aim_of state)) 1 n (command_sets plant) [] [] (omega arith)

-- a walk that isn't settled made as many trials as it may
pub recovery_trials : (plant : Plant) (state : SessionState) (n : ℕ) → (recovery plant state n).outcome ≡ Unsettled → trials (recovery plant state n) ≡ n
unfolding recovery
recovery_trials plant state n = used_up_unsettled none_alike (candidate_recovers plant (aim_of state)) (candidate_reason plant (aim_of state)) 1 n (command_sets plant) [] []

-- the walk of this aim is that of the state which it is of
recovery_at : (plant : Plant) (state : SessionState) (p : Plant) (aim : Aim) (m sum : ℕ) → p ≡ plant → aim ≡ aim_of state → m ≡ sum → recovery_walk p aim m ≡ recovery plant state sum
unfolding recovery
recovery_at plant state p aim m sum plant_is aim_is m_is = λ i. recovery_walk (plant_is i) (aim_is i) (m_is i)

-- a search on the walk of the state's recovery has run on
pub recovery_has_run : (plant : Plant) (state : SessionState) (n sum : ℕ) (old new : QueryValue) (o : Outcome) (spare : Option ClauseMap) → IsRecoveryOf plant (aim_of state) state.goals old → trials_of old.standing + n ≡ sum
    → IsQuery new → recovery_walk old.plant old.aim (trials_of old.standing + n) ≡ come_to o new.standing
    → new.plant ≡ old.plant → new.aim ≡ old.aim → IsRecoveryAt plant state sum (record { query = new; outcome = o; spare = spare })
recovery_has_run plant state n sum old new o spare is sum_is on walk plant_same aim_same = record {
  on = record { plant_is = plant_same ∙ is.plant_is; aim_is = aim_same ∙ is.aim_is; some = is.some; on_walk = on };
  came_to = sym (recovery_at plant state old.plant old.aim (trials_of old.standing + n) sum is.plant_is is.aim_is sum_is) ∙ walk;
}
