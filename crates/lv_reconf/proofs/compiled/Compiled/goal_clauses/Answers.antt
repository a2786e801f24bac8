-- a goal that fits speaks of values that have booleans
use Rattle.std.proofs.Common.{◌≡◌, true, subst, sym, ap, ◌∙◌}
use Rattle.std.proofs.lemmas.Result.{IfOk-weaker}
use Rattle.lv_base.specs.Fits.{fits}
use Rattle.lv_base.specs.Tree.{tree_of}
use Rattle.lv_model.specs.declared.plant.Plant.{Plant}
use Rattle.lv_model.specs.Ranges.{plant_ranges}
use Rattle.lv_compile.specs.Cleaning.{cleaned}
use Rattle.lv_reconf.specs.Compiling.{SayGoal}
use Rattle.lv_reconf.proofs.GoalLemmas.{goal_is_spoken, goal_is_said}
use Rattle.lv_reconf.proofs.compiled.Compiled.goal_clauses.Goals as goal

pub formula_clauses-requires : goal.formula_clauses-requires
formula_clauses-requires c =
    goal_is_spoken c.self.inside.model.now c.self.invariant.system c.self.invariant.of_plant c.self.inside.after c.self.invariant.next_are c.args.goal.now
    (subst (λ (p : Plant). fits (plant_ranges p) c.args.goal.now ≡ true) (sym c.self.view_is) c.requires.equations) (tree_of c.formula.result.now) c.formula.ensures

pub returns : goal.returns
returns c =
    IfOk-weaker c.cleaned.result _ _
    (λ out told.
    subst (λ (p : Plant). SayGoal p c.args.goal.now c.args.sign out.items) c.self.view_is
    (goal_is_said c.self.inside.model.now c.self.invariant.system c.self.invariant.of_plant c.self.inside.after c.self.invariant.next_are c.args.goal.now
    (subst (λ (p : Plant). fits (plant_ranges p) c.args.goal.now ≡ true) (sym c.self.view_is) c.requires.equations) (tree_of c.formula.result.now) c.formula.ensures
    c.args.sign out.items (told ∙ ap cleaned c.in_ok-raw.ensures)))
    c.cleaned.ensures
