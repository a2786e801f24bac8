-- the solver asks for the goals
use Rattle.std.proofs.Common.{◌≡◌, true, List, sym, subst, ap, ◌∙◌}
use Rattle.lv_base.specs.Tree.{Tree}
use Rattle.lv_model.specs.declared.plant.Plant.{Plant}
use Rattle.lv_meaning.specs.declared.aim.Aim.{Aim}
use Rattle.lv_meaning.specs.Recovers.{meets_goals}
use Rattle.lv_reconf.specs.Narrowing.{Asks}
use Rattle.lv_reconf.specs.Trying.{Question}
use Rattle.lv_reconf.proofs.reaching.Reaching.new.Goals as goal

pub invariant_of-result : goal.invariant_of-result
invariant_of-result c =
    let s : Question = c.args.setting.now in
    let goals : c.as_slice-goals.result.now ≡ s.aim.goals = c.as_slice-goals.ensures ∙ ap (λ (a : Aim). a.goals) c.aim.ensures.aim in
    let plain : Asks c.compiled.result.now s.aim.present (λ b. true) c.plain.result.now.set =
    subst (λ (p : Plant). Asks p s.aim.present (λ b. true) c.plain.result.now.set) (sym c.compiled.ensures) c.plain.ensures
    in
    subst (λ (p : Plant). Asks p s.aim.present (meets_goals s.aim.goals) c.in_ok-reaching_solver.field-0.set) c.compiled.ensures
    (subst (λ (gs : List Tree). Asks c.compiled.result.now s.aim.present (meets_goals gs) c.in_ok-reaching_solver.field-0.set) goals
    (c.in_ok-reaching_solver.ensures s.aim.present plain))
