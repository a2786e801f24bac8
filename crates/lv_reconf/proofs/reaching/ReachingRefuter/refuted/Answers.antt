-- the solver asks for steps that meet the goals
use Rattle.std.proofs.Common.{◌≡◌, Bool, List, Some, None, slice_get, sym, subst, ap, ◌∙◌}
use Rattle.std.specs.Result.{IfOk}
use Rattle.std.proofs.lemmas.Result.{IfOk-weaker}
use Rattle.lv_meaning.specs.declared.aim.Aim.{Aim}
use Rattle.lv_meaning.specs.Recovers.{meets_goals}
use Rattle.lv_reconf.specs.Assuming.{CommandedValue}
use Rattle.lv_reconf.specs.Narrowing.{Asks}
use Rattle.lv_base.specs.declared.search.Pair.{Pair}
use Rattle.lv_asking.specs.Reducing.{RefutesPairs}
use Rattle.lv_reconf.specs.Refuting.{RefutesSteps, needs}
use Rattle.lv_reconf.specs.Trying.{Question, ReachingValue, looking_at, reaches_at}
use Rattle.lv_reconf.proofs.RefutingLemmas.{found_there, none_there, refuted_there, refuted_nowhere}
use Rattle.lv_reconf.proofs.reaching.ReachingRefuter.refuted.Goals as goal

pub returns-in-Some-clause-told : goal.returns-in-Some-clause-told
returns-in-Some-clause-told c =
    λ possible is.
    let s : Question = c.self.inside.setting.now in
    let tracked : c.as_slice.result.now ≡ s.aim.tracked = c.as_slice.ensures ∙ ap (λ (a : Aim). a.tracked) c.aim.ensures.aim in
    let there : slice_get s.aim.tracked c.self.inside.at ≡ Some c.in-Some.s.now = ap (λ xs. slice_get xs c.self.inside.at) (sym tracked) ∙ found_there c.as_slice.result.now c.self.inside.at c.in-Some.s.now c.in-Some.ensures.lookup.3.0 c.in-Some.ensures.lookup.1 in
    subst (λ (test : List Pair → Bool). IfOk c.refuted.result (RefutesPairs test (needs c.args.self.now.plant) c.args.pairs.now)) (sym is)
    (subst (λ (r : ReachingValue). IfOk c.refuted.result (RefutesPairs (reaches_at r) (needs r.plant) c.args.pairs.now)) c.self.view_is
    (IfOk-weaker c.refuted.result _ _
    (λ core told.
    refuted_there (looking_at s.plant s.aim c.self.inside.at) c.in-Some.s.now there c.args.pairs.now core
    (subst (λ (v : CommandedValue). RefutesSteps v.plant s.aim.present (meets_goals s.aim.goals) c.in-Some.s.now.state v.pairs core) c.new.ensures told))
    (c.refuted.ensures.answer s.aim.present (meets_goals s.aim.goals)
    (subst (λ (v : CommandedValue). Asks v.plant s.aim.present (meets_goals s.aim.goals) c.self.inside.solver.set) (sym c.new.ensures) c.self.invariant))))

pub returns-in_ok-new-in-None-clause-told : goal.returns-in_ok-new-in-None-clause-told
returns-in_ok-new-in-None-clause-told c =
    λ possible is.
    let s : Question = c.self.inside.setting.now in
    let tracked : c.as_slice.result.now ≡ s.aim.tracked = c.as_slice.ensures ∙ ap (λ (a : Aim). a.tracked) c.aim.ensures.aim in
    let there : slice_get s.aim.tracked c.self.inside.at ≡ None = ap (λ xs. slice_get xs c.self.inside.at) (sym tracked) ∙ none_there c.as_slice.result.now c.self.inside.at c.in-None.ensures.lookup.3 in
    subst (λ (test : List Pair → Bool). RefutesPairs test (needs c.args.self.now.plant) c.args.pairs.now (Some c.in_ok-new-in-None.field-0)) (sym is)
    (subst (λ (r : ReachingValue). RefutesPairs (reaches_at r) (needs r.plant) c.args.pairs.now (Some c.in_ok-new-in-None.field-0)) c.self.view_is
    (refuted_nowhere (looking_at s.plant s.aim c.self.inside.at) there c.args.pairs.now c.in_ok-new-in-None.field-0))
