use Rattle.std.proofs.Common.{◌-◌, take, drop, length, sym, subst}
use Rattle.lv_cert.specs.Form.{IsReadTo}
use Rattle.lv_cert.specs.Taking.{IsTaken, Takes}
use Rattle.lv_cert.proofs.TakingLemmas.{read_on}
use Rattle.lv_cert.proofs.whole.read_cert.Goals as goal

pub loop-rest-preserved : goal.loop-rest-preserved
loop-rest-preserved c =
    let h : IsTaken c.loop-rest.place c.loop-rest.rest.now c.in-Some.field-0 = subst (Takes c.loop-rest.place c.loop-rest.rest.now) c.in-Some.is c.in_ok-line.ensures in
    subst (λ ls. IsReadTo c.in-Some.field-0.place ls c.args.bytes.now (take (length c.loop-rest.rest.now - c.in-Some.field-0.length) (drop c.in-Some.field-0.length c.loop-rest.rest.now)))
    (sym c.in_ok-push-in-Some.ensures.ok) (read_on c.loop-rest.place c.loop-rest.lines c.args.bytes.now c.loop-rest.rest.now c.in-Some.field-0 c.loop-rest.invariant h)
