-- What is found behind a step: whether the plant's modes are tracked, and whether the goals are met.
use Rattle.std.specs.Prelude.{ℕ, Bool, nat_eq, if◌then◌else◌, List, length, IsTrue}
use Rattle.std.specs.List.{list_all, list_any}
use Rattle.lv_base.specs.declared.ids.ValId.{ValId}
use Rattle.lv_base.specs.Tree.{truth_of, reads_below}
use Rattle.lv_model.specs.declared.state.TrackedState.{TrackedState}
use Rattle.lv_session.specs.lv_tracker.Distinct.{has_modes}
use Rattle.lv_session.specs.lv_session_request.declared.goals.Goal.{Goal}
use Rattle.lv_plant.specs.declared.reply.GoalsTold.{GoalsTold}
use Rattle.lv_plant.specs.declared.reply.GoalsTold.TheVariants.{NoGoals, Met, Open}

-- the modes are those of a tracked state
abbrev pub is_held : List ValId → List TrackedState → Bool
is_held modes tracked = list_any (has_modes modes) tracked

abbrev pub is_met : List ValId → Goal → Bool
is_met b g = truth_of b 0 g.formula

-- all goals are true
abbrev pub are_met : List ValId → List Goal → Bool
are_met b goals = list_all (is_met b) goals

-- whether the goals that are held, if any, are all true
abbrev pub goals_among : List ValId → List Goal → GoalsTold
goals_among b goals =
    if nat_eq (length goals) 0 then NoGoals
    else (if are_met b goals then Met else Open)

-- the goal speaks of variables that there are so many of
pub record GoalReads (bound : ℕ) (g : Goal) : Type 0 where
  pub below : IsTrue (reads_below bound 0 g.formula)
