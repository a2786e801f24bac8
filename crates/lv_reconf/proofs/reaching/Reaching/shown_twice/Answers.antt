-- nothing is asked of goals, so the solver asks for any nominal step
use Rattle.std.proofs.Common.{◌≡◌, ◌&&◌, [], List, sym, subst, ap, ◌∙◌}
use Rattle.std.specs.Result.{IfOk}
use Rattle.std.proofs.lemmas.Result.{IfOk-weaker}
use Rattle.lv_base.specs.Tree.{Tree}
use Rattle.lv_model.specs.declared.state.TrackedState.{TrackedState}
use Rattle.lv_meaning.specs.declared.aim.Aim.{Aim}
use Rattle.lv_meaning.specs.declared.facts.Observation.{Observation}
use Rattle.lv_meaning.specs.Facts.{agrees}
use Rattle.lv_meaning.specs.Recovers.{some_nominal_step, meets_goals}
use Rattle.lv_reconf.specs.Assuming.{CommandedValue}
use Rattle.lv_reconf.specs.Narrowing.{Asks}
use Rattle.lv_reconf.specs.Tests.{can_show, two_pass}
use Rattle.lv_reconf.specs.Trying.{Question, ReachingValue}
use Rattle.lv_reconf.proofs.reaching.Reaching.shown_twice.Goals as goal

pub returns-clause-answer : goal.returns-clause-answer
returns-clause-answer c =
    let s : Question = c.self.inside.setting.now in
    let seen : Observation = record { var = c.args.var; val = c.args.val } in
    let tracked : c.as_slice-states.result.now ≡ s.aim.tracked = c.as_slice-states.ensures ∙ ap (λ (a : Aim). a.tracked) c.aim.ensures.aim in
    let none : s.aim.goals ≡ [] = ap (λ (r : ReachingValue). r.aim.goals) c.self.view_is ∙ c.requires.none in
    subst (λ (r : ReachingValue). IfOk c.shown_twice.result (λ answer. answer ≡ two_pass (can_show r.plant r.aim c.args.var c.args.pairs.now c.args.val.0) r.aim.tracked)) c.self.view_is
    (IfOk-weaker c.shown_twice.result _ _
    (λ answer told.
    told
    ∙ (λ i. two_pass (λ (t : TrackedState). some_nominal_step (c.new.ensures i).plant s.aim.present t.state (c.new.ensures i).pairs (λ b. meets_goals s.aim.goals b && agrees b seen)) (tracked i))
    ∙ ap (λ (gs : List Tree). two_pass (λ (t : TrackedState). some_nominal_step s.plant s.aim.present t.state c.args.pairs.now (λ b. meets_goals gs b && agrees b seen)) s.aim.tracked) none)
    (c.shown_twice.ensures.answer s.aim.present (meets_goals s.aim.goals)
    (subst (λ (v : CommandedValue). Asks v.plant s.aim.present (meets_goals s.aim.goals) c.self.inside.solver.set) (sym c.new.ensures) c.self.invariant)))
