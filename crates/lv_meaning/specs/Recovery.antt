-- The reason of a command set that doesn't recover, and the walk to the first one that does.
use Rattle.std.specs.Prelude.{ℕ, Bool, not, List, [], Option, if◌then◌else◌}
use Rattle.std.specs.List.{find}
use Rattle.std.specs.Option.{option_map_or}
use Rattle.lv_base.specs.declared.rank.Rank.{Rank}
use Rattle.lv_base.specs.declared.search.Pair.{Pair}
use Rattle.lv_base.specs.declared.search.Candidate.{Candidate}
use Rattle.lv_base.specs.Choices.{pairs_of}
use Rattle.lv_model.specs.declared.plant.Plant.{Plant}
use Rattle.lv_model.specs.declared.state.State.{State}
use Rattle.lv_model.specs.declared.state.TrackedState.{TrackedState}
use Rattle.lv_boxes.specs.Walk.{Walked, candidate_of, walk}
use Rattle.lv_boxes.specs.Reason.{reduced}
use Rattle.lv_meaning.specs.declared.aim.Aim.{Aim}
use Rattle.lv_meaning.specs.Recovers.{reaches, is_sure_from, recovers}
use Rattle.lv_meaning.specs.Commands.{command_sets}

-- why the values aren't sure from this state: where they don't reach the goals from it, what is left of them when each, in the
-- written order of the controls, is left free where the rest still doesn't; else all of them
abbrev pub reason_from : Plant → Aim → List ℕ → State → List Pair
reason_from plant aim u s = if reaches plant aim s (pairs_of u) then pairs_of u else reduced (reaches plant aim s) [] (pairs_of u)

-- the first tracked state from which the values aren't sure
abbrev pub first_unsure : Plant → Aim → List ℕ → Option TrackedState
first_unsure plant aim u = find (λ (s : TrackedState). not (is_sure_from plant aim u s)) aim.tracked

-- the reason of values that don't recover is that of the first state from which they aren't sure
abbrev pub command_reason : Plant → Aim → List ℕ → List Pair
command_reason plant aim u = option_map_or (λ (s : TrackedState). reason_from plant aim u s.state) (first_unsure plant aim u) []

-- the same of the choices of a candidate, in which a slot is a control and a choice a value
abbrev pub candidate_recovers : Plant → Aim → Candidate → Bool
candidate_recovers plant aim c = recovers plant aim c.choices

abbrev pub candidate_reason : Plant → Aim → Candidate → List Pair
candidate_reason plant aim c = command_reason plant aim c.choices

abbrev pub rank_recovers : Plant → Aim → Rank → Bool
rank_recovers plant aim r = candidate_recovers plant aim (candidate_of r)

-- the walk of a recovery along all command sets, to the first that recovers
abbrev pub recovery_walk : Plant → Aim → ℕ → Walked
recovery_walk plant aim budget = walk (candidate_recovers plant aim) (candidate_reason plant aim) 1 budget (command_sets plant)
