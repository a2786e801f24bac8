-- what is still marked is among the literals left
use Rattle.std.proofs.Common.{◌≡◌, drop, length}
use Rattle.lv_clauses.specs.Noted.{AreTaken}
use Rattle.lv_clauses.proofs.noted_marks.unmark_all.Given as goal

abbrev pub invariant-loop-lit : goal.invariant-loop-lit
invariant-loop-lit l =
    record {
      taken : AreTaken l.marks.items (drop l.lit-index l.taken);
      len : length l.marks.items ≡ length l.fn.marks.items;
    }
