-- one goal more
use Rattle.std.proofs.Common.{◌+◌, ◌∷◌, List, drop, sym, ap, ◌∙◌}
use Rattle.std.proofs.lemmas.List.{drop_more, drop_all}
use Rattle.lv_base.specs.Tree.{Tree}
use Rattle.lv_meaning.specs.Recovers.{meets_goals}
use Rattle.lv_reconf.proofs.NarrowingLemmas.{narrows_end}
use Rattle.lv_reconf.proofs.GoalLemmas.{goal_more}
use Rattle.lv_reconf.proofs.goals.ask_goals.Goals as goal

pub loop-goal-preserved : goal.loop-goal-preserved
loop-goal-preserved c =
    let gs = c.args.goals.now in
    let i = c.loop-goal.goal-index in
    let g : Tree = c.goal-item.result in
    goal_more c.args.compiled.now c.args.solver.now.set c.loop-goal.solver.set c.ask_goal.new.solver.set i g gs
    (drop_more gs i g c.loop-goal-test.true ∙ ap (λ (t : Tree). t ∷ drop (i + 1) gs) (sym c.goal-item.is)) c.loop-goal.invariant c.in_ok-ask_goal.ensures

pub returns : goal.returns
returns c =
    narrows_end c.args.compiled.now c.args.solver.now.set c.loop-goal.solver.set (λ a b ms. meets_goals (drop c.loop-goal.goal-index c.args.goals.now) b) (λ a b ms. meets_goals c.args.goals.now b)
    c.loop-goal.invariant (λ values a b ms code. ap (λ (gs : List Tree). meets_goals gs b) (drop_all c.loop-goal.goal-index c.args.goals.now c.loop-goal-test.false))
