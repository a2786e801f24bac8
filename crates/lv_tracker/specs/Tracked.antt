-- The tracked list: how it starts, and what it keeps.
use Rattle.std.specs.Prelude.{ℕ, ◌≤◌, ◌≡◌, List, length, map, All, IsTrue}
use Rattle.lv_base.specs.declared.limits.TheConstants.{TRACKED, TRACKED_COST}
use Rattle.lv_base.specs.declared.rank.Rank.{Rank}
use Rattle.lv_model.specs.declared.plant.Plant.{Plant}
use Rattle.lv_model.specs.declared.plant.Part.{Part}
use Rattle.lv_model.specs.declared.state.TrackedState.{TrackedState}
use Rattle.lv_tracker.specs.Distinct.{are_distinct, first_of_each}
use Rattle.lv_tracker.specs.Targets.{target_state}

-- a tracked state's cost is within its bound
pub record IsWithinCost (s : TrackedState) : Type 0 where
  pub cost : s.cost.0 ≤ TRACKED_COST

-- at least one state and not too many, no two with the same modes, each at a cost within its bound
pub record AreTracked (ss : List TrackedState) : Type 0 where
  pub some : 1 ≤ length ss
  pub few : length ss ≤ TRACKED
  pub distinct : IsTrue (are_distinct ss)
  pub costs : All IsWithinCost ss

-- a state with a mode for each part
pub record HasModes (parts : ℕ) (s : TrackedState) : Type 0 where
  pub modes : length s.state.modes ≡ parts

-- a candidate's cost is within the bound of a tracked state's
pub record IsCheap (r : Rank) : Type 0 where
  pub cost : r.cost.0 ≤ TRACKED_COST

-- the modes that the parts start in, at cost 0
abbrev pub start_state : Plant → TrackedState
start_state plant = record { state = record { modes = map (λ (p : Part). p.start) plant.parts }; cost = record { 0 = 0 } }

-- the distinct states that the candidates lead to, in the order of their first appearance, each at the cost of its first
abbrev pub advanced : Plant → List Rank → List TrackedState
advanced plant listed = first_of_each (map (target_state plant) listed)
