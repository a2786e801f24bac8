-- move by move
use Rattle.lv_window.proofs.BreakLemmas.{breaks_more, breaks_done}
use Rattle.lv_window.proofs.joints.push_breaks.Goals as goal

pub loop-number-preserved : goal.loop-number-preserved
loop-number-preserved c =
    breaks_more c.args.slots.slot c.args.slots.behind c.args.first.number c.args.first.of.now c.args.moves.now c.loop-number.number c.index-moves-number.result c.loop-number.out.items c.push_break.new.out.items _
    c.loop-number-test.true c.index-moves-number.is c.loop-number.invariant c.in_ok-push_break.ensures

pub returns : goal.returns
returns c =
    breaks_done c.args.slots.slot c.args.slots.behind c.args.first.number c.args.first.of.now c.args.moves.now c.loop-number.number c.loop-number.out.items _ c.loop-number-test.false c.loop-number.invariant
