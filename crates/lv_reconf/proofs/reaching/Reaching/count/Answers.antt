-- the solver asks for steps that meet the goals
use Rattle.std.proofs.Common.{◌≡◌, sym, subst, ap, ◌∙◌}
use Rattle.std.specs.List.{prefix_len}
use Rattle.std.specs.Result.{IfOk}
use Rattle.std.proofs.lemmas.Result.{IfOk-weaker}
use Rattle.lv_model.specs.declared.state.TrackedState.{TrackedState}
use Rattle.lv_meaning.specs.declared.aim.Aim.{Aim}
use Rattle.lv_meaning.specs.Recovers.{some_nominal_step, meets_goals, reaches}
use Rattle.lv_reconf.specs.Assuming.{CommandedValue}
use Rattle.lv_reconf.specs.Narrowing.{Asks}
use Rattle.lv_reconf.specs.Trying.{Question, ReachingValue}
use Rattle.lv_reconf.proofs.reaching.Reaching.count.Goals as goal

pub returns-clause-count : goal.returns-clause-count
returns-clause-count c =
    let s : Question = c.self.inside.setting.now in
    let tracked : c.as_slice-states.result.now ≡ s.aim.tracked = c.as_slice-states.ensures ∙ ap (λ (a : Aim). a.tracked) c.aim.ensures.aim in
    subst (λ (r : ReachingValue). IfOk c.count_stepping.result (λ n. n ≡ prefix_len (λ (t : TrackedState). reaches r.plant r.aim t.state c.args.pairs.now) r.aim.tracked)) c.self.view_is
    (IfOk-weaker c.count_stepping.result _ _
    (λ n told. told ∙ (λ i. prefix_len (λ (t : TrackedState). some_nominal_step (c.new.ensures i).plant s.aim.present t.state (c.new.ensures i).pairs (meets_goals s.aim.goals)) (tracked i)))
    (c.count_stepping.ensures.answer s.aim.present (meets_goals s.aim.goals)
    (subst (λ (v : CommandedValue). Asks v.plant s.aim.present (meets_goals s.aim.goals) c.self.inside.solver.set) (sym c.new.ensures) c.self.invariant)))
