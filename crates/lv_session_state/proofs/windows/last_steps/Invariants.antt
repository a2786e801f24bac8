use Rattle.std.proofs.Common.{◌≡◌, ◌++◌, drop, map}
use Rattle.lv_session_state.specs.State.{last_step}
use Rattle.lv_session_state.proofs.windows.last_steps.Given as goal

-- what was added and the last steps of the trajectories that are left are all
abbrev pub invariant-loop-rank : goal.invariant-loop-rank
invariant-loop-rank l = l.out.items ++ map (last_step l.plant) (drop l.rank-index l.listed) ≡ map (last_step l.plant) l.listed
