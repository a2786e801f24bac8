-- those gone over have their other literal true, or watch another one
use Rattle.std.proofs.Common.{length}
use Rattle.lv_ltms.proofs.VisitLemmas.{IsVisiting}
use Rattle.lv_ltms.proofs.propagation.rewatch.Given as goal

abbrev pub invariant-loop : goal.invariant-loop
invariant-loop l = IsVisiting l.arena (length l.fn.labels.marks) l.fn.near l.far l.fn.labels l.lit l.end l.counter l.near l.labels l.at l.found
