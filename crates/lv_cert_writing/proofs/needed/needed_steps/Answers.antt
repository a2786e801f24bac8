-- the marked step before those that were looked at marks what it names
use Rattle.std.proofs.Common.{arith}
use Rattle.lv_cert_writing.proofs.NeededLemmas.{needed_next}
use Rattle.lv_cert_writing.proofs.needed.needed_steps.Goals as goal

pub loop-place-preserved-then-index : goal.loop-place-preserved-then-index
loop-place-preserved-then-index c =
    record {
      within = omega arith;
      needed =
          needed_next c.args.log.now c.loop-place.needed.items c.mark_named.new.needed.items c.loop-place.place c.step.result.now c.as_slice.result.now c.loop-place-test.true
          c.loop-place.invariant.within c.step.ensures c.as_slice.ensures c.mark_named.ensures c.loop-place.invariant.needed;
    }
