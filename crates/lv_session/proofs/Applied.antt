-- The state in which a recovery was applied is one of the plant, as what a recovery lists has a value for each control.
use Rattle.std.proofs.Common.{◌≡◌, ℕ, Bool, true, false, nat_lt, slice_index_or, Some, List, [], ◌∷◌, length, map, refl, sym, subst, arith, All}
use Rattle.std.proofs.lemmas.Bool.{and_parts}
use Rattle.std.proofs.lemmas.List.Elements.{All-cons, All-head, All-nil, Contains-get_or}
use Rattle.std.specs.Cmp.Lexicographic.{pointwise}
use Rattle.lv_base.specs.declared.ids.VarId.{VarId}
use Rattle.lv_base.specs.declared.rank.Rank.{Rank}
use Rattle.lv_model.specs.declared.plant.Plant.{Plant}
use Rattle.lv_model.specs.Lists.{sizes, controls}
use Rattle.lv_boxes.specs.declared.outcome.Outcome.{Outcome}
use Rattle.lv_boxes.specs.declared.outcome.Outcome.TheVariants.{Settled, Unsettled}
use Rattle.lv_boxes.specs.Walk.{none_alike}
use Rattle.lv_session_state.specs.lv_meaning.Facts.{commanded, HasValue}
use Rattle.lv_session_state.specs.lv_meaning.Possible.{value}
use Rattle.lv_session_state.specs.lv_meaning.Commands.{is_command_set, command_sets}
use Rattle.lv_session_state.specs.lv_meaning.Recovery.{candidate_recovers, candidate_reason}
use Rattle.lv_session_state.specs.lv_meaning.RecoveryLaws.{IsCommandSet}
use Rattle.lv_session_state.proofs.lv_meaning.CommandSets.{listed_is_set}
use Rattle.lv_session_state.specs.declared.query.Query.{Query}
use Rattle.lv_session_state.specs.declared.query.Query.TheVariants.{Absent, Diagnosis, Recovery, Test, Window}
use Rattle.lv_session.specs.declared.workings.Workings.{Workings}
use Rattle.lv_session_state.specs.State.{SessionState, aim_of, recovery}
use Rattle.lv_session.specs.Session.{RunningSession}
use Rattle.lv_session_state.specs.Applying.{values_by, recovery_values, applied}
use Rattle.lv_session.specs.Applying.{recovery_at}
use Rattle.lv_session_state.specs.States.{IsStateOf}
use Rattle.lv_session_state.specs.Current.{IsCurrent}
use Rattle.lv_session.specs.Kept.{IsSession}
use Rattle.lv_session_state.proofs.Listed.{listed_all}

-- a value for each control
pub record Commands (sizes : List ℕ) (cs : List VarId) (u : List ℕ) : Type 0 where
  pub whole : length (map value u) ≡ length cs
  pub values : All (HasValue sizes) (commanded cs (map value u))

commands_all : (sizes : List ℕ) (cs : List VarId) (u : List ℕ) → pointwise nat_lt u (map (λ (c : VarId). slice_index_or sizes c.0 0) cs) ≡ true → Commands sizes cs u
commands_all sizes [] [] h = record { whole = refl; values = All-nil (HasValue sizes) }
commands_all sizes [] (v ∷ u) h = absurd (cc h)
commands_all sizes (c ∷ cs) [] h = absurd (cc h)
commands_all sizes (c ∷ cs) (v ∷ u) h =
    let parts = and_parts (nat_lt v (slice_index_or sizes c.0 0)) (pointwise nat_lt u (map (λ (c : VarId). slice_index_or sizes c.0 0) cs)) h in
    let rest : Commands sizes cs u = commands_all sizes cs u parts.1 in
    let below : nat_lt v (slice_index_or sizes c.0 0) ≡ true = parts.0 in
    let same : length (map value u) ≡ length cs = rest.whole in
    record {
      whole = omega (arith, same);
      values = All-cons (HasValue sizes) (record { var = c; val = value v }) (commanded cs (map value u)) (record { below = grind (arith, below) }) rest.values;
    }

module _ (plant : Plant) (state : SessionState) where
  all_sets : All (IsCommandSet plant) (command_sets plant)
  all_sets i d below = listed_is_set plant _ (Contains-get_or (command_sets plant) i d below)

  sets_listed : (sum : ℕ) → All (IsCommandSet plant) (recovery plant state sum).listed
  unfolding recovery
  sets_listed sum =
      listed_all (IsCommandSet plant) none_alike (candidate_recovers plant (aim_of state)) (candidate_reason plant (aim_of state)) 1 sum (command_sets plant) [] []
      (All-nil (IsCommandSet plant)) all_sets

  found_set : (o : Outcome) (rs : List Rank) (u : List ℕ) → All (IsCommandSet plant) rs → values_by o rs ≡ Some u → is_command_set plant u ≡ true
  found_set Settled [] u all e = absurd (cc e)
  found_set Settled (r ∷ rs) u all e =
      let same : r.choices ≡ u = cc e in
      subst (λ (v : List ℕ). is_command_set plant v ≡ true) same (All-head (IsCommandSet plant) r rs all).values
  found_set Unsettled rs u all e = absurd (cc e)

  recovers_all : (q : Query) (u : List ℕ) → recovery_values q plant state ≡ Some u → is_command_set plant u ≡ true
  recovers_all Absent u e = absurd (cc e)
  recovers_all (Diagnosis sum) u e = absurd (cc e)
  recovers_all (Recovery sum) u e = found_set (recovery plant state sum).outcome (recovery plant state sum).listed u (sets_listed sum) e
  recovers_all (Test x sum) u e = absurd (cc e)
  recovers_all (Window steps sum) u e = absurd (cc e)

  applied_kept : (u : List ℕ) → IsStateOf plant state → is_command_set plant u ≡ true → IsStateOf plant (applied state u)
  applied_kept u is set =
      let all : Commands (sizes plant) (controls plant) u = commands_all (sizes plant) (controls plant) u set in
      record {
        controls_whole = all.whole;
        values = all.values;
        modes = is.modes;
        fit = is.fit;
        costs = is.costs;
        time = is.time;
        k = is.k;
        present = is.present;
        next = is.next;
        held = is.held;
        history = is.history;
        goals = is.goals;
        few_goals = is.few_goals;
      }

-- what is told of the current recovery is known
known : (s : RunningSession) (b : Bool) → s.is_out_of_memory ≡ b → (u : List ℕ) → recovery_at s ≡ Some u → recovery_values s.state.query s.plant s.state ≡ Some u
known s true is u e = absurd (cc (is, e))
known s false is u e = cc (is, e)

-- a session goes on from the state in which its recovery was applied
pub session_applied : (plant : Plant) (w : Workings) (state new : SessionState) (wanting : Bool) (u : List ℕ) → IsSession plant w state wanting
    → recovery_at (record { plant = plant; state = state; is_out_of_memory = wanting }) ≡ Some u → new ≡ applied state u → IsSession plant w new wanting
session_applied plant w state new wanting u is found same =
    let set : is_command_set plant u ≡ true =
    recovers_all plant state state.query u (known (record { plant = plant; state = state; is_out_of_memory = wanting }) wanting refl u found) in
    record {
      labeller_is = is.labeller_is;
      is_state = subst (IsStateOf plant) (sym same) (applied_kept plant state u is.is_state set);
      current = λ _. subst (λ (s : SessionState). IsCurrent plant s w.running) (sym same) tt;
      solver = is.solver;
    }
