-- The reason of an impossible trajectory, the walk of a window, and its answer.
use Rattle.std.specs.Prelude.{ℕ, List, [], length, take, filter}
use Rattle.lv_base.specs.declared.rank.Rank.{Rank}
use Rattle.lv_base.specs.declared.search.Pair.{Pair}
use Rattle.lv_base.specs.declared.search.Candidate.{Candidate}
use Rattle.lv_base.specs.Choices.{pairs_of}
use Rattle.lv_model.specs.declared.plant.Plant.{Plant}
use Rattle.lv_model.specs.declared.state.TrackedState.{TrackedState}
use Rattle.lv_boxes.specs.Walk.{Walked, walk}
use Rattle.lv_boxes.specs.Reason.{reduced}
use Rattle.lv_meaning.specs.declared.facts.Facts.{Facts}
use Rattle.lv_window.specs.Trajectories.{trajectories}
use Rattle.lv_window.specs.Possible.{is_possible_over, is_possible_trajectory, is_possible_window_rank}

-- the reason of an impossible trajectory: its choices, of which each, step by step, part by part, is left out where the rest is still not
-- possible
abbrev pub window_reason : Plant → List Facts → Candidate → List Pair
window_reason plant steps c = reduced (is_possible_over plant steps) [] (pairs_of c.choices)

-- the walk of a window along these trajectories
abbrev pub window_walk : Plant → List Facts → ℕ → ℕ → List Rank → Walked
window_walk plant steps k budget ranks = walk (is_possible_trajectory plant steps) (window_reason plant steps) k budget ranks

-- the first k trajectories that are possible, or all if fewer are
abbrev pub first_trajectories : ℕ → Plant → List Facts → List TrackedState → List Rank
first_trajectories k plant steps tracked = take k (filter (is_possible_window_rank plant steps) (trajectories plant (length steps) tracked))
