use Rattle.std.proofs.Common.{◌≡◌, ◌++◌, drop, map}
use Rattle.lv_tracker.specs.Targets.{target_state}
use Rattle.lv_tracker.proofs.targets.target_states.Given as goal

-- what was added and what the candidates that are left lead to is what all lead to
abbrev pub invariant-loop-rank : goal.invariant-loop-rank
invariant-loop-rank l = l.states.items ++ map (target_state l.plant) (drop l.rank-index l.listed) ≡ map (target_state l.fn.model) l.listed
