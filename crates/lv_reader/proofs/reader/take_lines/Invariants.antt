use Rattle.std.proofs.Common.{length}
use Rattle.lv_reader.proofs.TakingLemmas.{IsTaking}
use Rattle.lv_reader.proofs.reader.take_lines.Given as goal

-- the lines before the rest are read and taken
abbrev pub invariant-loop-line : goal.invariant-loop-line
invariant-loop-line g l = IsTaking g.T.TakesStatements.takes l.bytes l.rest l.known l.lines l.initial.taker l.taker

abbrev pub decreases-loop-line : goal.decreases-loop-line
decreases-loop-line g l = length l.rest
