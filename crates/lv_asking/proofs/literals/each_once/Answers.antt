-- literal by literal
use Rattle.std.proofs.Common.{false}
use Rattle.lv_asking.proofs.OnceLemmas.{noted_next, noted_all}
use Rattle.lv_asking.proofs.literals.each_once.Goals as goal

pub loop-lit-preserved : goal.loop-lit-preserved
loop-lit-preserved c =
    noted_next c.args.bools c.args.lits.now c.loop-lit.lit-index (record { var = record { 0 = 0 }; sign = false }) c.loop-lit.seen c.push_new.new.seen c.loop-lit.out.items c.push_new.new.out.items
    c.loop-lit-test.true c.requires c.loop-lit.invariant c.in_ok-push_new.ensures.seen c.in_ok-push_new.ensures.out

pub returns : goal.returns
returns c = noted_all c.args.bools c.args.lits.now c.loop-lit.lit-index c.loop-lit.seen c.loop-lit.out.items c.loop-lit-test.false c.loop-lit.invariant
