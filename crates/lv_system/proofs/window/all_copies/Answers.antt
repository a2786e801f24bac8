-- one copy after the other is gathered
use Rattle.std.proofs.Common.{refl, ap, ◌∙◌, ◌+◌, arith}
use Rattle.std.specs.List.{sum}
use Rattle.lv_system.proofs.GatheringLemmas.{gathered_none, gathered_more, gathered_fit, gathered_all}
use Rattle.lv_system.proofs.window.all_copies.Goals as goal

pub copies-init : goal.copies-init
copies-init c = gathered_none c.args.plant.now (c.args.steps + 1) _ _ refl c.new-copies.ensures.items

pub bools_from-requires : goal.bools_from-requires
bools_from-requires c =
    let few = c.requires.few in
    gathered_fit c.args.plant.now c.requires.well (c.args.steps + 1) c.copies.first c.copies.left c.copies.copies.items c.copies.invariant (omega (arith, few)) c.copies-test.true

pub copies-preserved : goal.copies-preserved
copies-preserved c =
    gathered_more c.args.plant.now c.requires.well (c.args.steps + 1) c.copies.first _ c.copies.left c.copies.copies.items c.push.new.self.items c.in_ok-bools.bools c.copies.invariant c.copies-test.true
    c.in_ok-bools.ensures c.in_ok-push.ensures.items (ap (λ n. c.copies.first + n) (c.sum_of-first.ensures ∙ ap (λ ns. sum ns) c.sizes.ensures.sizes))

pub returns-clause-copies : goal.returns-clause-copies
returns-clause-copies c =
    (gathered_all c.args.plant.now (c.args.steps + 1) c.args.steps c.copies.first c.copies.left c.copies.copies.items (omega arith) c.copies.invariant c.copies-test.false).0

pub returns-clause-past : goal.returns-clause-past
returns-clause-past c =
    (gathered_all c.args.plant.now (c.args.steps + 1) c.args.steps c.copies.first c.copies.left c.copies.copies.items (omega arith) c.copies.invariant c.copies-test.false).1
