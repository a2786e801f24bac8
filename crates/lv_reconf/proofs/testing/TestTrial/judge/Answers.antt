-- what is counted and asked tells what the definitions say
use Rattle.std.proofs.Common.{◌≡◌, ◌<◌, ◌≤◌, true, false, length, sym, subst, ap, ◌∙◌, arith}
use Rattle.lv_meaning.specs.declared.aim.Aim.{Aim}
use Rattle.lv_reconf.specs.declared.judged.Judged.TheVariants.{Recovers, Misses, Stops}
use Rattle.lv_reconf.specs.Tests.{some_shared}
use Rattle.lv_reconf.specs.Testing.{TestQuestion, JudgesTest}
use Rattle.lv_reconf.specs.Trying.{ReachingValue, Question}
use Rattle.lv_reconf.proofs.TestJudgeLemmas.{test_stops, test_shares, test_passes}
use Rattle.lv_reconf.proofs.testing.TestTrial.judge.Goals as goal

pub returns-then-count-len-clause-judges : goal.returns-then-count-len-clause-judges
returns-then-count-len-clause-judges c =
    λ u are.
    let r : ReachingValue = c.self.inside.reaching in
    let states : c.len.result ≡ length r.aim.tracked =
    c.len.ensures
    ∙ ap (λ (a : Aim). length a.tracked) (c.aim.ensures.aim ∙ ap (λ (q : Question). q.aim) c.setting.ensures ∙ ap (λ (v : ReachingValue). v.aim) c.count.ensures.kept)
    in
    let less : c.in_ok-count.count < length r.aim.tracked = subst (λ n. c.in_ok-count.count < n) states c.if-count-len.true in
    subst (λ (q : TestQuestion). JudgesTest q.plant q.aim q.var u (Stops c.in_ok-count.count)) c.self.view_is
    (test_stops r.plant r.aim c.self.inside.var u c.self.invariant.none c.args.pairs.now are c.in_ok-count.count c.in_ok-count.ensures.count less)

pub returns-then-branch-clause-judges : goal.returns-then-branch-clause-judges
returns-then-branch-clause-judges c =
    λ u are.
    let r : ReachingValue = c.self.inside.reaching in
    let states : c.len.result ≡ length r.aim.tracked =
    c.len.ensures
    ∙ ap (λ (a : Aim). length a.tracked) (c.aim.ensures.aim ∙ ap (λ (q : Question). q.aim) c.setting.ensures ∙ ap (λ (v : ReachingValue). v.aim) c.count.ensures.kept)
    in
    let not_less = c.if-count-len.false in
    let most : length r.aim.tracked ≤ c.in_ok-count.count = omega (arith, states, not_less) in
    let asked : c.in_ok-some_shared.field-0 ≡ some_shared r.plant r.aim c.self.inside.var c.args.pairs.now =
    c.in_ok-some_shared.ensures.answer ∙ ap (λ (v : ReachingValue). some_shared v.plant v.aim c.self.inside.var c.args.pairs.now) c.count.ensures.kept
    in
    subst (λ (q : TestQuestion). JudgesTest q.plant q.aim q.var u Misses) c.self.view_is
    (test_shares r.plant r.aim c.self.inside.var u c.self.invariant.none c.args.pairs.now are c.in_ok-count.count c.in_ok-count.ensures.count most (sym asked ∙ c.if-branch.true))

pub returns-clause-judges : goal.returns-clause-judges
returns-clause-judges c =
    λ u are.
    let r : ReachingValue = c.self.inside.reaching in
    let states : c.len.result ≡ length r.aim.tracked =
    c.len.ensures
    ∙ ap (λ (a : Aim). length a.tracked) (c.aim.ensures.aim ∙ ap (λ (q : Question). q.aim) c.setting.ensures ∙ ap (λ (v : ReachingValue). v.aim) c.count.ensures.kept)
    in
    let not_less = c.if-count-len.false in
    let most : length r.aim.tracked ≤ c.in_ok-count.count = omega (arith, states, not_less) in
    let asked : c.in_ok-some_shared.field-0 ≡ some_shared r.plant r.aim c.self.inside.var c.args.pairs.now =
    c.in_ok-some_shared.ensures.answer ∙ ap (λ (v : ReachingValue). some_shared v.plant v.aim c.self.inside.var c.args.pairs.now) c.count.ensures.kept
    in
    subst (λ (q : TestQuestion). JudgesTest q.plant q.aim q.var u Recovers) c.self.view_is
    (test_passes r.plant r.aim c.self.inside.var u c.self.invariant.none c.args.pairs.now are c.in_ok-count.count c.in_ok-count.ensures.count most (sym asked ∙ c.if-branch.false))
