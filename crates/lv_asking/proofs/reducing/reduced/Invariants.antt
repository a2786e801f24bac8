-- what is kept and what is left come to what all come to
use Rattle.std.proofs.Common.{◌≡◌, ◌++◌, Bool, false, List, drop, filter, IfSome}
use Rattle.lv_base.specs.declared.search.Pair.{Pair}
use Rattle.lv_asking.specs.Reducing.{IsReducing}
use Rattle.lv_asking.proofs.reducing.reduced.Given as goal

abbrev pub invariant-loop-at : goal.invariant-loop-at
invariant-loop-at g l = record {
  fits : g.R.Refuter.fits l.fn.refuter (l.deletion.kept.items ++ drop l.at l.pairs);
  reducing : (possible : List Pair → Bool) → g.R.Refuter.tells l.fn.refuter possible → IfSome l.fn.core (λ marks. possible (filter (g.R.Refuter.needs l.fn.refuter marks) l.pairs) ≡ false) → IsReducing possible (g.R.Refuter.needs l.fn.refuter) l.pairs l.at l.deletion.kept.items l.deletion.core;
  same : l.refuter ≡ l.fn.refuter;
}
