-- one state more
use Rattle.std.proofs.Common.{Bool, sym, ◌∙◌, subst}
use Rattle.std.specs.List.{prefix_len}
use Rattle.lv_clauses.specs.ClauseMap.{ClauseMap}
use Rattle.lv_model.specs.declared.state.TrackedState.{TrackedState}
use Rattle.lv_meaning.specs.Recovers.{some_nominal_step}
use Rattle.lv_reconf.specs.Narrowing.{Asks}
use Rattle.lv_reconf.proofs.StateLemmas.{count_stops, count_goes, count_ends}
use Rattle.lv_reconf.proofs.commanded.Commanded.count_stepping.Goals as goal

pub returns-then-not-branch-clause-answer : goal.returns-then-not-branch-clause-answer
returns-then-not-branch-clause-answer c =
    λ present ends asks.
    let p : TrackedState → Bool = λ s. some_nominal_step c.args.self.now.plant present s.state c.args.self.now.pairs ends in
    let now : Asks c.args.self.now.plant present ends c.loop-n.solver.set = subst (λ (m : ClauseMap). Asks c.args.self.now.plant present ends m) (sym c.loop-n.invariant.same) asks in
    count_stops p c.args.states.now c.loop-n.n c.index-states-n.result (prefix_len p c.args.states.now) c.loop-n-test.true c.index-states-n.is
    (sym (c.in_ok-has_step.ensures.answer present ends now) ∙ c.if-not-branch.true) (c.loop-n.invariant.rest present ends asks)

pub loop-n-preserved : goal.loop-n-preserved
loop-n-preserved c =
    record {
      same = c.has_step.ensures.kept ∙ c.loop-n.invariant.same;
      rest =
          λ present ends asks.
          let p : TrackedState → Bool = λ s. some_nominal_step c.args.self.now.plant present s.state c.args.self.now.pairs ends in
          let now : Asks c.args.self.now.plant present ends c.loop-n.solver.set = subst (λ (m : ClauseMap). Asks c.args.self.now.plant present ends m) (sym c.loop-n.invariant.same) asks in
          count_goes p c.args.states.now c.loop-n.n c.index-states-n.result (prefix_len p c.args.states.now) c.loop-n-test.true c.index-states-n.is
          (sym (c.in_ok-has_step.ensures.answer present ends now) ∙ c.if-not-branch.false) (c.loop-n.invariant.rest present ends asks);
    }

pub returns-clause-answer : goal.returns-clause-answer
returns-clause-answer c =
    λ present ends asks.
    count_ends (λ (s : TrackedState). some_nominal_step c.args.self.now.plant present s.state c.args.self.now.pairs ends) c.args.states.now c.loop-n.n c.loop-n-test.false (c.loop-n.invariant.rest present ends asks)
