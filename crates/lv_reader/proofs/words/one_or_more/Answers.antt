use Rattle.std.proofs.Common.{arith}
use Rattle.lv_reader.proofs.WordLists.{others_end, others_past}
use Rattle.lv_reader.proofs.words.one_or_more.Goals.{then-others-test+else-is_or_at, else-others-test}
use Rattle.lv_reader.proofs.words.one_or_more.Goals as goal

pub returns-clause-ok : goal.returns-clause-ok
returns-clause-ok c =
    elim c.others-test.branch [
      | then-others-test+else-is_or_at w ↦ rw c.from_vec.ensures (others_end c.args.line.now c.others.place _ _ w.is_or_at.result w.is_or_at.ensures w.if-is_or_at.false c.others.invariant)
      | else-others-test w ↦ rw c.from_vec.ensures (others_past c.args.line.now c.others.place _ _ (omega (arith, c.len-most.ensures, w.others-test.false)) c.others.invariant)
    ]
