-- What was taken of the slot at each exit, from what was taken before and by the last read.
use Rattle.std.proofs.Common.{rules, arith}
use Rattle.lv_io.proofs.Pieces.{taken_more, taken_within}
use Rattle.lv_io.proofs.whole.read_all.Goals as goal

pub returns-in_err-read_piece-clause-taken : goal.returns-in_err-read_piece-clause-taken
returns-in_err-read_piece-clause-taken g c =
    taken_within _ _ _ _ _ _ c.read.invariant.taken (omega arith) c.in_err-read_piece.ensures.taken

pub returns-then-len-limit-clause-taken : goal.returns-then-len-limit-clause-taken
returns-then-len-limit-clause-taken g c =
    taken_within _ _ _ _ _ _ c.read.invariant.taken (omega arith) c.in_ok-read_piece.ensures.taken

pub read-preserved : goal.read-preserved
read-preserved g c =
    let grows = c.in_ok-read_piece.ensures.bytes in
    record {
      within = search rules;
      taken = taken_more _ _ _ _ _ c.read.invariant.taken grows.kept grows.taken;
      left = search rules;
      known = search rules;
      opens = search rules;
      files = search rules;
      cause = search rules;
      others = search rules;
    }
