-- what is added so far and the goals left say what all say
use Rattle.std.proofs.Common.{drop}
use Rattle.lv_meaning.specs.Recovers.{meets_goals}
use Rattle.lv_reconf.specs.Narrowing.{NarrowsSoFar}
use Rattle.lv_reconf.proofs.goals.ask_goals.Given as goal

abbrev pub invariant-loop-goal : goal.invariant-loop-goal
invariant-loop-goal l = NarrowsSoFar l.compiled l.initial.solver.set l.solver.set (λ a b ms. meets_goals (drop l.goal-index l.goals) b) (λ a b ms. meets_goals l.goals b)
