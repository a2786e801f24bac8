-- The trajectories over some steps, in the order of their ranks: from a tracked state a full choice for each step, in which each part's
-- move goes from the mode that the move before it led to.
use Rattle.std.specs.Prelude.{ℕ, ◌+◌, zero, suc, List, [], ◌∷◌, ◌++◌}
use Rattle.std.specs.List.{flat_map}
use Rattle.lv_base.specs.declared.ids.ValId.{ValId}
use Rattle.lv_base.specs.declared.rank.Rank.{Rank}
use Rattle.lv_model.specs.declared.plant.Plant.{Plant}
use Rattle.lv_model.specs.declared.state.TrackedState.{TrackedState}
use Rattle.lv_boxes.specs.Ranked.{ranked}
use Rattle.lv_meaning.specs.Candidates.{ranks_from}
use Rattle.lv_meaning.specs.Targets.{target_of_rank}

-- every way to go on by so many steps from these modes, behind choices of this cost: each candidate of the first step, and on from the
-- state that it leads to
abbrev pub trajectories_from : Plant → ℕ → ℕ → List ValId → ℕ → List ℕ → List Rank
trajectories_from plant zero place modes cost choices = record { cost = record { 0 = cost }; source = place; choices = choices } ∷ []
trajectories_from plant (suc steps) place modes cost choices =
    flat_map (λ (r : Rank). trajectories_from plant steps place (target_of_rank plant r) r.cost.0 (choices ++ r.choices)) (ranks_from plant.types place plant.parts modes cost [])

-- of the tracked states, the first of which has this place
abbrev pub trajectories_of : Plant → ℕ → ℕ → List TrackedState → List Rank
trajectories_of plant steps place [] = []
trajectories_of plant steps place (s ∷ ss) = trajectories_from plant steps place s.state.modes s.cost.0 [] ++ trajectories_of plant steps (place + 1) ss

-- by cost, then place, then choices step by step, part by part
abbrev pub trajectories : Plant → ℕ → List TrackedState → List Rank
trajectories plant steps tracked = ranked (trajectories_of plant steps 0 tracked)
