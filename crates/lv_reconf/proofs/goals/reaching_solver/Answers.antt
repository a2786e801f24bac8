-- the same clauses, and the goals
use Rattle.std.proofs.Common.{◌∙◌}
use Rattle.lv_meaning.specs.Recovers.{meets_goals}
use Rattle.lv_reconf.proofs.GoalLemmas.{asks_more}
use Rattle.lv_reconf.proofs.goals.reaching_solver.Goals as goal

pub returns : goal.returns
returns c =
    λ present asks.
    asks_more c.args.compiled.now present (meets_goals c.args.goals.now) c.args.plain.now.set c.in_ok-solver.solver.set c.ask_goals.new.solver.set (c.in_ok-solver.ensures.set ∙ c.clauses.ensures) asks
    c.in_ok-ask_goals.ensures
