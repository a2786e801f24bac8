-- none gone over watches the literal on the other side
use Rattle.std.proofs.Common.{◌≢◌}
use Rattle.lv_ltms.specs.Watching.{lit_at}
use Rattle.lv_ltms.proofs.ReadLemmas.{IsReading}
use Rattle.lv_ltms.proofs.revision.find_unit.Given as goal

abbrev pub invariant-loop : goal.invariant-loop
invariant-loop l = IsReading l.near l.lit l.end l.counter l.at (λ id. lit_at l.far id.0 ≢ l.lit)
