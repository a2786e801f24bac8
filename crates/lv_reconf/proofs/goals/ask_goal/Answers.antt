-- the goal's clauses are over the booleans, and say what it says
use Rattle.std.proofs.Common.{List, subst, sym}
use Rattle.std.proofs.lemmas.Result.{IfOk-weaker}
use Rattle.lv_base.specs.declared.ids.Lit.{Lit}
use Rattle.lv_reconf.specs.Compiling.{SayGoal}
use Rattle.lv_reconf.proofs.GoalLemmas.{said_over, said_narrows}
use Rattle.lv_reconf.proofs.goals.ask_goal.Goals as goal

pub add_all-requires : goal.add_all-requires
add_all-requires c =
    said_over c.args.compiled.now c.args.goal.now c.args.sign c.as_slice.result.now
    (subst (λ (cs : List (List Lit)). SayGoal c.args.compiled.now c.args.goal.now c.args.sign cs) (sym c.as_slice.ensures.value) c.in_ok-clauses.ensures)
    c.args.solver.now.set.bools c.requires.bools

pub returns : goal.returns
returns c =
    IfOk-weaker c.add_all.result _ _
    (λ x adds.
    said_narrows c.args.compiled.now c.args.goal.now c.args.sign c.as_slice.result.now
    (subst (λ (cs : List (List Lit)). SayGoal c.args.compiled.now c.args.goal.now c.args.sign cs) (sym c.as_slice.ensures.value) c.in_ok-clauses.ensures)
    c.args.solver.now.set c.add_all.new.solver.set adds)
    c.add_all.ensures
