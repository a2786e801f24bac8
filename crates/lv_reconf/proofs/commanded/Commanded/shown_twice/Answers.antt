-- one state more
use Rattle.std.proofs.Common.{◌≡◌, ◌&&◌, ◌||◌, Bool, true, false, sym, ◌∙◌, ap, subst}
use Rattle.lv_clauses.specs.ClauseMap.{ClauseMap}
use Rattle.lv_model.specs.declared.state.TrackedState.{TrackedState}
use Rattle.lv_meaning.specs.Facts.{agrees}
use Rattle.lv_meaning.specs.Recovers.{some_nominal_step}
use Rattle.lv_reconf.specs.Narrowing.{Asks}
use Rattle.lv_reconf.specs.Tests.{two_pass}
use Rattle.lv_reconf.proofs.ShowingLemmas.{and_false, twice_goes, twice_found, twice_ends}
use Rattle.lv_reconf.proofs.commanded.Commanded.shown_twice.Goals as goal
use Rattle.lv_reconf.proofs.commanded.Commanded.shown_twice.Goals.{else-shown-via-then-shown+else-once, else-shown-via-else-shown, then-once-2, else-once-2}

pub returns-then-once-clause-answer : goal.returns-then-once-clause-answer
returns-then-once-clause-answer c =
    λ present ends asks.
    let p : TrackedState → Bool = λ s. some_nominal_step c.args.self.now.plant present s.state c.args.self.now.pairs (λ b. ends b && agrees b c.args.seen) in
    let now : Asks c.args.self.now.plant present ends c.loop-s.solver.set = subst (λ (m : ClauseMap). Asks c.args.self.now.plant present ends m) (sym c.loop-s.invariant.same) asks in
    let both : (c.in_ok-shown.shown && c.loop-s.once) ≡ true = ap (λ b. b && c.loop-s.once) c.if-shown.true ∙ c.if-once.true in
    twice_found p c.args.states.now c.loop-s.s-index c.s-item.result c.loop-s.once c.in_ok-shown.shown (two_pass p c.args.states.now) c.loop-s-test.true c.s-item.is
    (c.in_ok-shown.ensures.answer present ends now) both (c.loop-s.invariant.rest present ends asks)

pub loop-s-preserved : goal.loop-s-preserved
loop-s-preserved c =
    let not_both : (c.in_ok-shown.shown && c.loop-s.once) ≡ false = elim c.else-shown.branch [
      | else-shown-via-then-shown+else-once w ↦ and_false c.in_ok-shown.shown c.loop-s.once w.if-once.false
      | else-shown-via-else-shown w ↦ ap (λ b. b && c.loop-s.once) w.if-shown.false
    ]
    in
    let once_is : c.if-once-2.once ≡ (c.loop-s.once || c.in_ok-shown.shown) = elim c.if-once-2.branch [
      | then-once-2 w ↦ w.once-is ∙ w.if-once-2.true ∙ sym (ap (λ b. b || c.in_ok-shown.shown) w.if-once-2.true)
      | else-once-2 w ↦ w.once-is ∙ sym (ap (λ b. b || c.in_ok-shown.shown) w.if-once-2.false)
    ]
    in
    record {
      same = c.shows.ensures.kept ∙ c.loop-s.invariant.same;
      rest =
          λ present ends asks.
          let p : TrackedState → Bool = λ s. some_nominal_step c.args.self.now.plant present s.state c.args.self.now.pairs (λ b. ends b && agrees b c.args.seen) in
          let now : Asks c.args.self.now.plant present ends c.loop-s.solver.set = subst (λ (m : ClauseMap). Asks c.args.self.now.plant present ends m) (sym c.loop-s.invariant.same) asks in
          rw once_is
          (twice_goes p c.args.states.now c.loop-s.s-index c.s-item.result c.loop-s.once c.in_ok-shown.shown (two_pass p c.args.states.now) c.loop-s-test.true c.s-item.is
          (c.in_ok-shown.ensures.answer present ends now) not_both (c.loop-s.invariant.rest present ends asks));
    }

pub returns-clause-answer : goal.returns-clause-answer
returns-clause-answer c =
    λ present ends asks.
    let p : TrackedState → Bool = λ s. some_nominal_step c.args.self.now.plant present s.state c.args.self.now.pairs (λ b. ends b && agrees b c.args.seen) in
    twice_ends p c.args.states.now c.loop-s.s-index c.loop-s.once (two_pass p c.args.states.now) c.loop-s-test.false (c.loop-s.invariant.rest present ends asks)
