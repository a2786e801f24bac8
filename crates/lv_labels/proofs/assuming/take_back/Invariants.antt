-- what is left to take back leads where all did
use Rattle.std.proofs.Common.{◌≡◌, length}
use Rattle.lv_clauses.specs.Marks.{Marks}
use Rattle.lv_labels.specs.Assuming.{IsOver, IsStacked}
use Rattle.lv_labels.proofs.assuming.take_back.Given as goal

abbrev pub invariant-loop-lit : goal.invariant-loop-lit
invariant-loop-lit l = record {
  bools : l.ltms.bools ≡ l.fn.ltms.bools;
  clauses : l.ltms.clauses ≡ l.fn.ltms.clauses;
  stacked : IsStacked l.added.items l.ltms.assumed;
  back : (base : Marks) → IsOver base l.fn.added.items l.fn.ltms.assumed → IsOver base l.added.items l.ltms.assumed;
}

abbrev pub decreases-loop-lit : goal.decreases-loop-lit
decreases-loop-lit l = length l.added.items
