-- what was copied, with what is left, is all
use Rattle.std.proofs.Common.{◌≡◌, ◌++◌, map, drop}
use Rattle.lv_session_state.specs.State.{text_of_goal}
use Rattle.lv_session_state.proofs.goals.texts_of.Given as goal

abbrev pub invariant-loop-goal : goal.invariant-loop-goal
invariant-loop-goal l = l.out.items ++ map text_of_goal (drop l.goal-index l.goals) ≡ map text_of_goal l.goals
