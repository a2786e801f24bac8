-- What a test of a variable needs, and what its walk says of the current query.
use Rattle.std.proofs.Common.{◌≡◌, ℕ, zero, suc, ◌+◌, ◌<◌, ◌≤◌, true, List, [], ◌∷◌, length, sum_by, slice_get, Option, Some, None, refl, sym, ◌∙◌, ap₂, subst, arith}
use Rattle.std.specs.List.{flat_map}
use Rattle.std.specs.Option.{option_map_or}
use Rattle.std.proofs.lemmas.List.{length-append, length-map}
use Rattle.std.proofs.lemmas.List.Elements.{All-nil}
use Rattle.std.proofs.lemmas.List.Sums.{sum_by-cons}
use Rattle.lv_system.specs.lv_clauses.ClauseMap.{ClauseMap}
use Rattle.lv_base.specs.declared.ids.VarId.{VarId}
use Rattle.lv_base.specs.declared.names.Class.{Class}
use Rattle.lv_model.specs.declared.plant.ComponentType.{ComponentType}
use Rattle.lv_model.specs.declared.plant.Part.{Part}
use Rattle.lv_model.specs.declared.plant.Plant.{Plant}
use Rattle.lv_model.specs.declared.plant.Variable.{Variable}
use Rattle.lv_model.specs.Lists.{type_width, part_width, variable_count}
use Rattle.lv_model_names.specs.Names.{type_classes, part_classes, classes, is_observable}
use Rattle.lv_boxes.specs.declared.outcome.Outcome.{Outcome}
use Rattle.lv_boxes.specs.declared.outcome.Outcome.TheVariants.{Unsettled}
use Rattle.lv_boxes.specs.Walk.{none_alike}
use Rattle.lv_boxes.proofs.WalkLemmas.{at_most, used_up_unsettled}
use Rattle.lv_ident.specs.lv_search.Standing.{trials_of}
use Rattle.lv_meaning.specs.declared.aim.Aim.{Aim}
use Rattle.lv_meaning.specs.Commands.{command_sets}
use Rattle.lv_meaning.specs.Ranges.{GoalFits, AimFits}
use Rattle.lv_reconf.specs.Tests.{candidate_tests, candidate_test_reason, test_walk}
use Rattle.lv_reconf.specs.Testing.{TestValue, IsTestQuery}
use Rattle.lv_session_request.specs.Requests.{IsObservableOf}
use Rattle.lv_session_state.specs.Current.{come_to, IsTestOf, IsTestAt}
use Rattle.lv_session_state.specs.State.{SessionState, test_aim_of, testing, trials}
use Rattle.lv_session_state.specs.States.{IsStateOf}
use Rattle.lv_session_state.proofs.RecoveriesAsked.{observations_fit}

-- each variable has a class
width_of : (types : List ComponentType) (p : Part) → length (part_classes types p) ≡ part_width types p
width_of types p = by (slice_get types p.kind)
  where
    by : (o : Option ComponentType) → length (option_map_or type_classes o []) ≡ option_map_or type_width o 0
    by None = refl
    by (Some t) = let long = length-map t.variables (λ (v : Variable). Some v.class) in omega (arith, long)

classes_of : (types : List ComponentType) (ps : List Part) → length (flat_map (part_classes types) ps) ≡ sum_by (part_width types) ps
classes_of types [] = refl
classes_of types (p ∷ ps) =
    length-append (part_classes types p) (flat_map (part_classes types) ps)
    ∙ ap₂ (λ (m n : ℕ). m + n) (width_of types p) (classes_of types ps)
    ∙ sym (sum_by-cons (part_width types) p ps)

is_there : (kinds : List (Option Class)) (x : ℕ) → is_observable kinds x ≡ true → x < length kinds
is_there [] x h = absurd (cc h)
is_there (k ∷ ks) zero h = omega arith
is_there (k ∷ ks) (suc x) h = let later = is_there ks x h in omega (arith, later)

-- an observable is a variable of the plant
pub observable_there : (plant : Plant) (x : VarId) → IsObservableOf plant x → x.0 < variable_count plant
observable_there plant x is = subst (λ n. x.0 < n) (classes_of plant.types plant.parts) (is_there (classes plant) x.0 is.observable)

pub test_aim_fits : (plant : Plant) (state : SessionState) → IsStateOf plant state → AimFits plant (test_aim_of state)
test_aim_fits plant state is = record {
  tracked = is.fit;
  present = observations_fit plant state.present is.present;
  goals = All-nil (GoalFits plant);
}

pub few_tested : (plant : Plant) (state : SessionState) (x : VarId) (n : ℕ) → length (testing plant state x n).listed ≤ 1
unfolding testing
few_tested plant state x n = at_most none_alike (candidate_tests plant (test_aim_of state) x) (candidate_test_reason plant (test_aim_of state)) 1 n (command_sets plant) [] [] (omega arith)

-- a walk that isn't settled made as many trials as it may
pub test_trials : (plant : Plant) (state : SessionState) (x : VarId) (n : ℕ) → (testing plant state x n).outcome ≡ Unsettled → trials (testing plant state x n) ≡ n
unfolding testing
test_trials plant state x n = used_up_unsettled none_alike (candidate_tests plant (test_aim_of state) x) (candidate_test_reason plant (test_aim_of state)) 1 n (command_sets plant) [] []

-- the walk of this aim is that of the state which it is of
test_at : (plant : Plant) (state : SessionState) (x : VarId) (p : Plant) (aim : Aim) (y : VarId) (m sum : ℕ) → p ≡ plant → aim ≡ test_aim_of state → y ≡ x → m ≡ sum → test_walk p aim y m ≡ testing plant state x sum
unfolding testing
test_at plant state x p aim y m sum plant_is aim_is var_is m_is = λ i. test_walk (plant_is i) (aim_is i) (var_is i) (m_is i)

-- a search on the walk of the state's test has run on
pub test_has_run : (plant : Plant) (state : SessionState) (x : VarId) (n sum : ℕ) (old new : TestValue) (o : Outcome) (spare : Option ClauseMap) → IsTestOf plant (test_aim_of state) x old → trials_of old.standing + n ≡ sum
    → IsTestQuery new → test_walk old.plant old.aim old.var (trials_of old.standing + n) ≡ come_to o new.standing
    → new.plant ≡ old.plant → new.aim ≡ old.aim → new.var ≡ old.var → IsTestAt plant state x sum (record { query = new; outcome = o; spare = spare })
test_has_run plant state x n sum old new o spare is sum_is on walk plant_same aim_same var_same = record {
  on = record { plant_is = plant_same ∙ is.plant_is; aim_is = aim_same ∙ is.aim_is; var_is = var_same ∙ is.var_is; on_walk = on };
  came_to = sym (test_at plant state x old.plant old.aim old.var (trials_of old.standing + n) sum is.plant_is is.aim_is is.var_is sum_is) ∙ walk;
}
