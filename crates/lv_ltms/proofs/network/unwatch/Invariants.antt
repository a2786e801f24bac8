-- those gone over are put back but for the clause that goes
use Rattle.std.proofs.Common.{length, set, None}
use Rattle.lv_ltms.proofs.UnwatchLemmas.{IsUnwatching}
use Rattle.lv_ltms.proofs.network.unwatch.Given as goal

abbrev pub invariant-loop : goal.invariant-loop
invariant-loop l = IsUnwatching (set l.arena l.id.0 None) (length l.fn.rows.of_true) l.fn.rows l.id l.lit l.end l.counter l.rows l.at
