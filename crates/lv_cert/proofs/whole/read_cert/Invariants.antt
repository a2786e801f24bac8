use Rattle.std.proofs.Common.{length}
use Rattle.lv_cert.specs.Form.{IsReadTo}
use Rattle.lv_cert.proofs.whole.read_cert.Given as goal

-- the lines so far are read, and lead to the place
abbrev pub invariant-loop-rest : goal.invariant-loop-rest
invariant-loop-rest l = IsReadTo l.place l.lines l.bytes l.rest

abbrev pub decreases-loop-rest : goal.decreases-loop-rest
decreases-loop-rest l = length l.rest
