-- Which command sets recover: what they surely lead to by a nominal step, one in which no part fails.
use Rattle.std.specs.Prelude.{ℕ, Bool, true, false, ◌&&◌, not, nat_eq, List, [], ◌∷◌, slice_get}
use Rattle.std.specs.List.{list_all}
use Rattle.std.specs.Option.{option_map_or}
use Rattle.lv_base.specs.declared.ids.ValId.{ValId}
use Rattle.lv_base.specs.declared.ids.VarId.{VarId}
use Rattle.lv_base.specs.declared.ids.MoveId.{MoveId}
use Rattle.lv_base.specs.declared.search.Pair.{Pair}
use Rattle.lv_base.specs.Choices.{pairs_of}
use Rattle.lv_base.specs.Tree.{Tree, truth_of, number_of}
use Rattle.lv_model.specs.declared.plant.Plant.{Plant}
use Rattle.lv_model.specs.declared.plant.Part.{Part}
use Rattle.lv_model.specs.declared.state.State.{State}
use Rattle.lv_model.specs.declared.state.TrackedState.{TrackedState}
use Rattle.lv_model.specs.Lists.{sizes, move_counts, controls}
use Rattle.lv_model.specs.Meaning.{is_step, is_nominal}
use Rattle.lv_meaning.specs.declared.facts.Observation.{Observation}
use Rattle.lv_meaning.specs.Facts.{meets}
use Rattle.lv_meaning.specs.Search.{some_list}
use Rattle.lv_meaning.specs.Possible.{value, move_number}
use Rattle.lv_meaning.specs.declared.aim.Aim.{Aim}

-- each of these parts is in its mode, and there is a mode for each
abbrev pub has_modes : List Part → List ValId → List ValId → Bool
has_modes [] [] a = true
has_modes [] (v ∷ vs) a = false
has_modes (p ∷ ps) [] a = false
has_modes (p ∷ ps) (v ∷ vs) a = nat_eq (number_of a p.first.0) v.0 && has_modes ps vs a

-- the control at the pair's slot has the pair's value; a control that isn't there has none
abbrev pub has_control : List VarId → List ValId → Pair → Bool
has_control cs a p = option_map_or (λ (c : VarId). nat_eq (number_of a c.0) p.choice) (slice_get cs p.slot) false

abbrev pub has_controls : List VarId → List ValId → List Pair → Bool
has_controls cs a pairs = list_all (has_control cs a) pairs

-- a nominal step of the system from the state, with these values of some controls and what is observed now
abbrev pub is_nominal_step : Plant → List Observation → State → List Pair → List ValId → List ValId → List MoveId → Bool
is_nominal_step plant present s pairs a b moves =
    (has_modes plant.parts s.modes a && (has_controls (controls plant) a pairs && meets a present)) && (is_step plant a b moves && is_nominal plant moves)

-- some such step ends so
abbrev pub some_nominal_step : Plant → List Observation → State → List Pair → (List ValId → Bool) → Bool
some_nominal_step plant present s pairs ends =
    some_list value (sizes plant) (λ a.
    some_list value (sizes plant) (λ b.
    some_list move_number (move_counts plant) (λ moves. is_nominal_step plant present s pairs a b moves && ends b)))

-- all goals are true
abbrev pub meets_goals : List Tree → List ValId → Bool
meets_goals goals b = list_all (truth_of b 0) goals

-- some nominal step from the state meets all goals
abbrev pub reaches : Plant → Aim → State → List Pair → Bool
reaches plant aim s pairs = some_nominal_step plant aim.present s pairs (meets_goals aim.goals)

-- some nominal step from the state ends with a goal false
abbrev pub can_miss : Plant → Aim → State → List Pair → Bool
can_miss plant aim s pairs = some_nominal_step plant aim.present s pairs (λ b. not (meets_goals aim.goals b))

-- with a value for each control some nominal step from the state meets all goals, and none ends with a goal false
abbrev pub is_sure : Plant → Aim → List ℕ → State → Bool
is_sure plant aim u s = reaches plant aim s (pairs_of u) && not (can_miss plant aim s (pairs_of u))

abbrev pub is_sure_from : Plant → Aim → List ℕ → TrackedState → Bool
is_sure_from plant aim u s = is_sure plant aim u s.state

-- a value for each control recovers where it is sure from each tracked state
abbrev pub recovers : Plant → Aim → List ℕ → Bool
recovers plant aim u = list_all (is_sure_from plant aim u) aim.tracked
