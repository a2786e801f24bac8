use Rattle.lv_system.proofs.GoalLemmas.{goals_exact}
use Rattle.lv_system.proofs.laws.goal_clauses_are_exact.Goals as goal

pub returns : goal.returns
returns c = goals_exact
