-- The states that candidates lead to.
use Rattle.std.specs.Prelude.{ℕ, length, ◌≡◌}
use Rattle.lv_base.specs.declared.rank.Rank.{Rank}
use Rattle.lv_model.specs.declared.plant.Plant.{Plant}
use Rattle.lv_model.specs.declared.state.TrackedState.{TrackedState}
use Rattle.lv_meaning.specs.Targets.{target_of_rank}

-- what the candidate leads to, at its cost
abbrev pub target_state : Plant → Rank → TrackedState
target_state plant r = record { state = record { modes = target_of_rank plant r }; cost = r.cost }

-- a candidate with a move for each part
pub record HasMoves (parts : ℕ) (r : Rank) : Type 0 where
  pub moves : length r.choices ≡ parts
