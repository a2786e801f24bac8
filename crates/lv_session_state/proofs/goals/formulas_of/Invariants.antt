-- what was copied, with what is left, is all
use Rattle.std.proofs.Common.{◌≡◌, ◌++◌, map, drop}
use Rattle.lv_session_state.specs.State.{formula_of}
use Rattle.lv_session_state.proofs.goals.formulas_of.Given as goal

abbrev pub invariant-loop-goal : goal.invariant-loop-goal
invariant-loop-goal l = l.out.items ++ map formula_of (drop l.goal-index l.goals) ≡ map formula_of l.goals
