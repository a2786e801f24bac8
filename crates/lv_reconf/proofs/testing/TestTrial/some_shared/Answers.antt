-- the value is shared, or isn't
use Rattle.std.proofs.Common.{◌≡◌, ◌<◌, ℕ, Bool, true, false, slice_index_or, sym, subst, ap, ◌∙◌, arith}
use Rattle.lv_model.specs.Lists.{sizes}
use Rattle.lv_meaning.specs.Search.{some_below}
use Rattle.lv_reconf.specs.Tests.{two_pass, can_show}
use Rattle.lv_reconf.specs.Testing.{TestQuestion}
use Rattle.lv_reconf.proofs.ShowingLemmas.{below_more, below_found}
use Rattle.lv_reconf.proofs.testing.TestTrial.some_shared.Goals as goal

pub returns-then-branch-clause-answer : goal.returns-then-branch-clause-answer
returns-then-branch-clause-answer c =
    let t : TestQuestion = c.args.self.now in
    let q : ℕ → Bool = λ v. two_pass (can_show t.plant t.aim t.var c.args.pairs.now v) t.aim.tracked in
    let passes : q c.loop-v.v ≡ true =
    sym (c.in_ok-is_shared.ensures.answer ∙ ap (λ (u : TestQuestion). two_pass (can_show u.plant u.aim u.var c.args.pairs.now c.loop-v.v) u.aim.tracked) c.loop-v.invariant.same) ∙ c.if-branch.true
    in
    let less : c.loop-v.v < slice_index_or (sizes t.plant) t.var.0 0 = subst (λ n. c.loop-v.v < n) c.size-size.ensures c.loop-v-test.true in
    sym (below_found q (slice_index_or (sizes t.plant) t.var.0 0) c.loop-v.v less passes)

pub loop-v-preserved : goal.loop-v-preserved
loop-v-preserved c =
    let t : TestQuestion = c.args.self.now in
    let q : ℕ → Bool = λ v. two_pass (can_show t.plant t.aim t.var c.args.pairs.now v) t.aim.tracked in
    let fails : q c.loop-v.v ≡ false =
    sym (c.in_ok-is_shared.ensures.answer ∙ ap (λ (u : TestQuestion). two_pass (can_show u.plant u.aim u.var c.args.pairs.now c.loop-v.v) u.aim.tracked) c.loop-v.invariant.same) ∙ c.if-branch.false
    in
    record { none = below_more q c.loop-v.v fails c.loop-v.invariant.none; same = c.in_ok-is_shared.ensures.kept ∙ c.loop-v.invariant.same }

pub returns-clause-answer : goal.returns-clause-answer
returns-clause-answer c =
    let t : TestQuestion = c.args.self.now in
    let q : ℕ → Bool = λ v. two_pass (can_show t.plant t.aim t.var c.args.pairs.now v) t.aim.tracked in
    let most = c.loop-v.auto.v-end in
    let least = c.loop-v-test.false in
    let all : c.loop-v.v ≡ c.size-size.result = omega (arith, most, least) in
    sym (subst (λ n. some_below n q ≡ false) (all ∙ c.size-size.ensures) c.loop-v.invariant.none)
