-- the clauses with numbers so far are copied
use Rattle.std.proofs.Common.{◌≡◌}
use Rattle.lv_labels.specs.Copying.{AreCopied}
use Rattle.lv_labels.proofs.copying.copy_clauses.Given as goal

abbrev pub invariant-loop-n : goal.invariant-loop-n
invariant-loop-n l = record {
  bools : l.ltms.bools ≡ l.set.bools;
  assumed : l.ltms.assumed ≡ l.fn.ltms.assumed;
  copied : AreCopied l.n l.set.slots l.ltms.clauses;
}
