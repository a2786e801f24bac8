-- A window's query as contracts see it, and which walk it is on.
use Rattle.std.specs.Prelude.{◌≡◌, true, None, List, length}
use Rattle.lv_model.specs.declared.plant.Plant.{Plant}
use Rattle.lv_model.specs.declared.state.TrackedState.{TrackedState}
use Rattle.lv_meaning.specs.declared.facts.Facts.{Facts}
use Rattle.lv_search.specs.Standing.{Standing, all_suit, IsUnderWay}
use Rattle.lv_window.specs.Trajectories.{trajectories}
use Rattle.lv_window.specs.Possible.{is_possible_trajectory}
use Rattle.lv_window.specs.Walk.{window_reason}
use Rattle.lv_window.specs.Joints.{is_full_window}

-- the plant, what is known of each step, and where the search stands
pub record WindowQueryValue : Type 0 where
  pub plant : Plant
  pub steps : List Facts
  pub standing : Standing

-- the query is on the walk of a window along the trajectories of these states
pub record IsWindowQueryOf (tracked : List TrackedState) (q : WindowQueryValue) : Type 0 where
  pub under_way : IsUnderWay (is_full_window q.plant (length q.steps)) (is_possible_trajectory q.plant q.steps) (window_reason q.plant q.steps) (trajectories q.plant (length q.steps) tracked) q.standing
  pub suit : all_suit (is_full_window q.plant (length q.steps)) q.standing ≡ true
  pub groups : q.standing.groups ≡ None
