-- the goal speaks of values of the system
use Rattle.std.proofs.Common.{◌∙◌, subst, sym, ap}
use Rattle.std.proofs.lemmas.Result.{IfOk-weaker}
use Rattle.lv_base.specs.Tree.{tree_of}
use Rattle.lv_meaning.specs.Ranges.{GoalFits}
use Rattle.lv_system.specs.Goals as goals
use Rattle.lv_cert_laws.specs.lv_cert_meaning.Units as units
use Rattle.lv_cert_recovery.specs.Asking.{Asked}
use Rattle.lv_cert_recovery.proofs.AskingLemmas.{goal_made, goal_spoken}
use Rattle.lv_cert_recovery.proofs.asking.Asking.goal.Goals as goal

pub goal_clauses-requires : goal.goal_clauses-requires
goal_clauses-requires c =
    goal_spoken c.self.inside.model.now c.self.inside.system.now c.self.invariant.of_plant c.args.goal.now (tree_of c.formula.result.now)
    (subst (λ (a : Asked). GoalFits a.plant c.args.goal.now) (sym c.self.view_is) c.requires) c.formula.ensures

pub returns : goal.returns
returns c =
    IfOk-weaker c.goal_clauses.result _ _
    (λ out is.
    is
    ∙ ap (goals.goal_clauses c.self.inside.system.now c.args.sign) c.formula.ensures
    ∙ goal_made c.self.inside.model.now c.self.inside.system.now c.self.invariant.of_plant c.args.goal.now c.args.sign
    ∙ ap (λ (a : Asked). units.goal_clauses a.plant c.args.sign c.args.goal.now) c.self.view_is)
    c.goal_clauses.ensures
