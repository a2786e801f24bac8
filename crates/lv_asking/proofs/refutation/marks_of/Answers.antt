-- literal by literal
use Rattle.std.proofs.Common.{false}
use Rattle.lv_asking.proofs.RefuteLemmas.{marked_next, marked_all}
use Rattle.lv_asking.proofs.refutation.marks_of.Goals as goal

pub loop-lit-preserved : goal.loop-lit-preserved
loop-lit-preserved c =
    marked_next c.args.bools c.args.lits.now c.loop-lit.lit-index (record { var = record { 0 = 0 }; sign = false }) c.loop-lit.marks c.take.new.self
    c.loop-lit-test.true c.requires c.loop-lit.invariant c.in_ok-take.ensures.taken

pub returns : goal.returns
returns c = marked_all c.args.bools c.args.lits.now c.loop-lit.lit-index c.loop-lit.marks c.loop-lit-test.false c.loop-lit.invariant
