-- one choice more
use Rattle.lv_guide.proofs.BesideLemmas.{mixed_next}
use Rattle.lv_guide.proofs.beside.mixed.Goals as goal

pub loop-slot-preserved : goal.loop-slot-preserved
loop-slot-preserved c =
    mixed_next c.loop-slot.choices.items c.push.new.self.items c.args.marks.now c.args.inner.now c.args.outer.now c.loop-slot.slot _ _ _ c.one_of.result
    c.loop-slot-test.true c.requires.inner c.requires.outer c.one_of.ensures c.in_ok-push.ensures.items c.loop-slot.invariant
