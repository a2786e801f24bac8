-- Which command sets test an observable: what is seen of it after a nominal step tells which of the tracked states the step began in.
use Rattle.std.specs.Prelude.{ℕ, Bool, true, false, ◌&&◌, ◌||◌, not, nat_eq, List, [], ◌∷◌, Option, slice_index_or}
use Rattle.std.specs.List.{list_all, list_any, find}
use Rattle.std.specs.Option.{option_map_or}
use Rattle.lv_base.specs.declared.ids.VarId.{VarId}
use Rattle.lv_base.specs.declared.rank.Rank.{Rank}
use Rattle.lv_base.specs.declared.search.Pair.{Pair}
use Rattle.lv_base.specs.declared.search.Candidate.{Candidate}
use Rattle.lv_base.specs.Choices.{pairs_of}
use Rattle.lv_base.specs.Tree.{number_of}
use Rattle.lv_model.specs.declared.plant.Plant.{Plant}
use Rattle.lv_model.specs.declared.state.TrackedState.{TrackedState}
use Rattle.lv_model.specs.Lists.{sizes}
use Rattle.lv_meaning.specs.lv_boxes.Walk.{Walked, candidate_of, walk}
use Rattle.lv_meaning.specs.lv_boxes.Reason.{reduced}
use Rattle.lv_meaning.specs.Search.{some_below}
use Rattle.lv_meaning.specs.declared.aim.Aim.{Aim}
use Rattle.lv_meaning.specs.Recovers.{some_nominal_step}
use Rattle.lv_meaning.specs.Commands.{command_sets}

-- from the state there is a nominal step with these values of controls; what the goals of the aim are plays no part
abbrev pub can_step : Plant → Aim → List Pair → TrackedState → Bool
can_step plant aim pairs s = some_nominal_step plant aim.present s.state pairs (λ b. true)

-- and one that ends with the variable at this value
abbrev pub can_show : Plant → Aim → VarId → List Pair → ℕ → TrackedState → Bool
can_show plant aim x pairs v s = some_nominal_step plant aim.present s.state pairs (λ b. nat_eq (number_of b x.0) v)

-- two of the items pass
abbrev pub two_pass : {X : Type 0} → (X → Bool) → List X → Bool
two_pass p [] = false
two_pass p (x ∷ xs) = (p x && list_any p xs) || two_pass p xs

-- some value of the variable may be seen after steps from two of the tracked states
abbrev pub some_shared : Plant → Aim → VarId → List Pair → Bool
some_shared plant aim x pairs = some_below (slice_index_or (sizes plant) x.0 0) (λ v. two_pass (can_show plant aim x pairs v) aim.tracked)

-- a value for each control tests the variable where from each tracked state there is a nominal step, and no value is seen after steps
-- from two of them
abbrev pub tests : Plant → Aim → VarId → List ℕ → Bool
tests plant aim x u = list_all (can_step plant aim (pairs_of u)) aim.tracked && not (some_shared plant aim x (pairs_of u))

-- the first tracked state from which there is no step with the values
abbrev pub first_stuck : Plant → Aim → List ℕ → Option TrackedState
first_stuck plant aim u = find (λ (s : TrackedState). not (can_step plant aim (pairs_of u) s)) aim.tracked

-- the reason of values that test nothing: at that state, what is left of them when each, in the written order of the controls, is left
-- free where with the rest there is still no step; where there is a step from each, all values
abbrev pub test_reason : Plant → Aim → List ℕ → List Pair
test_reason plant aim u =
    option_map_or (λ (s : TrackedState). reduced (λ (pairs : List Pair). can_step plant aim pairs s) [] (pairs_of u)) (first_stuck plant aim u) (pairs_of u)

-- the same of the choices of a candidate, in which a slot is a control and a choice a value
abbrev pub candidate_tests : Plant → Aim → VarId → Candidate → Bool
candidate_tests plant aim x c = tests plant aim x c.choices

abbrev pub candidate_test_reason : Plant → Aim → Candidate → List Pair
candidate_test_reason plant aim c = test_reason plant aim c.choices

abbrev pub rank_tests : Plant → Aim → VarId → Rank → Bool
rank_tests plant aim x r = candidate_tests plant aim x (candidate_of r)

-- the walk of a test along all command sets, to the first that tests the variable
abbrev pub test_walk : Plant → Aim → VarId → ℕ → Walked
test_walk plant aim x budget = walk (candidate_tests plant aim x) (candidate_test_reason plant aim) 1 budget (command_sets plant)
