-- What was counted, with the replies to the lines that are left, comes to what all replies do.
use Rattle.std.proofs.Common.{length}
use Rattle.lv_run.proofs.Tallying.{Tallied}
use Rattle.lv_run.proofs.tally.tally_lines.Given as goal

abbrev pub invariant-loop-line : goal.invariant-loop-line
invariant-loop-line l = record {
  tallied : Tallied l.compiled l.text l.session l.rest l.tally;
}

abbrev pub decreases-loop-line : goal.decreases-loop-line
decreases-loop-line l = length l.rest
