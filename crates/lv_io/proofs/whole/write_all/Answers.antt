-- One more piece of the text, behind those before.
use Rattle.std.proofs.Common.{rules, arith, length-drop}
use Rattle.lv_io.proofs.Pieces.{rest_of_bytes, added_more, flushed_more}
use Rattle.lv_io.proofs.whole.write_all.Goals as goal

pub loop-written-preserved : goal.loop-written-preserved
loop-written-preserved g c =
    let told = c.in_ok-written.ensures in
    let bound = rw (rest_of_bytes, length-drop) at told.text.within in
    let some = rw (rest_of_bytes, length-drop) at told.text.some in
    record {
      within = omega (arith, bound);
      text = added_more _ _ _ _ _ _ c.loop-written.invariant.text told.text.added;
      flushed = flushed_more _ _ _ _ _ _ c.loop-written-test.true (some (omega arith)) (omega (arith, bound)) told.flushed;
      faults = search rules;
    }
