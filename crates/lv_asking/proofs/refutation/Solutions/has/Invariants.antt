-- the solutions are as they were, and none so far makes all the literals true
use Rattle.std.proofs.Common.{◌≡◌, Bool, false, List, take}
use Rattle.std.specs.List.{list_all, list_any}
use Rattle.lv_clauses.specs.Literals.{lit_holds}
use Rattle.lv_asking.proofs.refutation.Solutions.has.Given as goal

abbrev pub invariant-loop-at : goal.invariant-loop-at
invariant-loop-at l = record {
  same : l.self-inside.kept.items ≡ l.initial.self-inside.kept.items;
  none : list_any (λ (values : List Bool). list_all (lit_holds values) l.lits) (take l.at l.initial.self-inside.kept.items) ≡ false;
}
