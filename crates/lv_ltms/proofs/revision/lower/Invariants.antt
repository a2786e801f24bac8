-- none gone over is watched with a literal that is false so early
use Rattle.std.proofs.Common.{◌≡◌, ◌≤◌, false}
use Rattle.lv_clauses.specs.Literals.{neg}
use Rattle.lv_ltms.specs.Watching.{lit_at}
use Rattle.lv_ltms.specs.Standing.{true_before}
use Rattle.lv_ltms.proofs.ReadLemmas.{IsReading}
use Rattle.lv_ltms.proofs.revision.lower.Given as goal

abbrev pub invariant-loop : goal.invariant-loop
invariant-loop l =
    record {
      reading : IsReading l.near l.fn.lit l.end l.counter l.at (λ id. true_before l.looked l.labels.trail (neg (lit_at l.far id.0)) ≡ false);
      less : l.looked ≤ l.done;
    }
