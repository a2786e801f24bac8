-- those gone over have their other literal true
use Rattle.std.proofs.Common.{◌≡◌, true}
use Rattle.lv_clauses.specs.Marks.{is_marked}
use Rattle.lv_ltms.specs.Labelled.{GoesOn}
use Rattle.lv_ltms.specs.Watching.{lit_at}
use Rattle.lv_ltms.proofs.ReadLemmas.{IsReading}
use Rattle.lv_ltms.proofs.propagation.follow.Given as goal

abbrev pub invariant-loop : goal.invariant-loop
invariant-loop l =
    record {
      reading : IsReading l.near l.lit l.end l.counter l.at (λ id. is_marked l.labels.marks (lit_at l.far id.0) ≡ true);
      goes_on : GoesOn l.arena l.fn.labels l.labels;
    }
