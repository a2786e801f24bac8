-- Each line makes what is left shorter.
use Rattle.std.proofs.Common.{length}
use Rattle.benches.proofs.session.tally.tally_over.Given as goal

abbrev pub decreases-loop-line : goal.decreases-loop-line
decreases-loop-line l = length l.rest
