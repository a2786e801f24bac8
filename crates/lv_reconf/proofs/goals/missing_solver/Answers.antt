-- the same clauses, and the goal's in the other sign
use Rattle.std.proofs.Common.{ap, ◌∙◌}
use Rattle.lv_clauses.specs.ClauseMap.{ClauseMap}
use Rattle.lv_reconf.proofs.GoalLemmas.{asks_missing}
use Rattle.lv_reconf.proofs.goals.missing_solver.Goals as goal

pub returns-clause-asks : goal.returns-clause-asks
returns-clause-asks c =
    λ present asks.
    asks_missing c.args.compiled.now present c.args.goal.now c.args.plain.now.set c.in_ok-solver.solver.set c.ask_goal.new.solver.set (c.in_ok-solver.ensures.set ∙ c.clauses.ensures) asks c.in_ok-ask_goal.ensures

pub returns-clause-bools : goal.returns-clause-bools
returns-clause-bools c = c.in_ok-ask_goal.ensures.bools ∙ ap (λ (m : ClauseMap). m.bools) (c.in_ok-solver.ensures.set ∙ c.clauses.ensures) ∙ c.requires.bools
