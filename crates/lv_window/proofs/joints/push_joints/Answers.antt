-- move by move
use Rattle.lv_window.proofs.BreakLemmas.{joints_more, joints_ended}
use Rattle.lv_window.proofs.joints.push_joints.Goals as goal

pub loop-number-preserved : goal.loop-number-preserved
loop-number-preserved c =
    joints_more c.args.slots.slot c.args.slots.behind c.args.moves.now c.args.moves.now c.loop-number.number c.index-moves-number.result c.loop-number.out.items c.push_breaks.new.out.items _
    c.loop-number-test.true c.index-moves-number.is c.loop-number.invariant c.in_ok-push_breaks.ensures

pub returns : goal.returns
returns c = joints_ended c.args.slots.slot c.args.slots.behind c.args.moves.now c.args.moves.now c.loop-number.number c.loop-number.out.items _ c.loop-number-test.false c.loop-number.invariant
