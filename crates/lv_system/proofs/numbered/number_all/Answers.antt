-- each clause gets a number that none had
use Rattle.lv_system.proofs.NumberingLemmas.{numbered_first, numbered_next}
use Rattle.lv_system.proofs.numbered.number_all.Goals as goal

pub loop-clause-init : goal.loop-clause-init
loop-clause-init c =
    let start = numbered_first c.args.bools c.in_ok-set.set c.in_ok-set.ensures c.new-ids.result.items c.new-ids.ensures.items in
    record { over = start.over; numbered = start.numbered }

pub loop-clause-preserved : goal.loop-clause-preserved
loop-clause-preserved c =
    let more =
    numbered_next c.args.bools c.args.clauses.now c.loop-clause.clause-index c.clause-item.result c.loop-clause-test.true c.clause-item.is c.loop-clause.set c.add.new.self
    c.loop-clause.ids.items c.push.new.self.items c.in_ok-add.field-0 c.as_slice.result.now c.loop-clause.invariant.over c.loop-clause.invariant.numbered c.as_slice.ensures
    c.in_ok-add.ensures.vacant c.in_ok-add.ensures.added c.in_ok-push.ensures.items in
    record { over = more.over; numbered = more.numbered }
