-- one state more
use Rattle.std.proofs.Common.{Bool, sym, ◌∙◌, subst}
use Rattle.std.specs.List.{list_any}
use Rattle.lv_clauses.specs.ClauseMap.{ClauseMap}
use Rattle.lv_model.specs.declared.state.TrackedState.{TrackedState}
use Rattle.lv_meaning.specs.Recovers.{some_nominal_step}
use Rattle.lv_reconf.specs.Narrowing.{Asks}
use Rattle.lv_reconf.proofs.StateLemmas.{any_goes, any_ends}
use Rattle.lv_reconf.proofs.commanded.Commanded.some_steps.Goals as goal

pub loop-s-preserved : goal.loop-s-preserved
loop-s-preserved c =
    record {
      same = c.has_step.ensures.kept ∙ c.loop-s.invariant.same;
      rest =
          λ present ends asks.
          let p : TrackedState → Bool = λ s. some_nominal_step c.args.self.now.plant present s.state c.args.self.now.pairs ends in
          let now : Asks c.args.self.now.plant present ends c.loop-s.solver.set = subst (λ (m : ClauseMap). Asks c.args.self.now.plant present ends m) (sym c.loop-s.invariant.same) asks in
          any_goes p c.args.states.now c.loop-s.s-index c.s-item.result (list_any p c.args.states.now) c.loop-s-test.true c.s-item.is
          (sym (c.in_ok-has_step.ensures.answer present ends now) ∙ c.if-branch.false) (c.loop-s.invariant.rest present ends asks);
    }

pub returns-clause-answer : goal.returns-clause-answer
returns-clause-answer c =
    λ present ends asks.
    let p : TrackedState → Bool = λ s. some_nominal_step c.args.self.now.plant present s.state c.args.self.now.pairs ends in
    any_ends p c.args.states.now c.loop-s.s-index (list_any p c.args.states.now) c.loop-s-test.false (c.loop-s.invariant.rest present ends asks)
