-- the values make the literals so far true
use Rattle.std.proofs.Common.{◌≡◌, true, take}
use Rattle.std.specs.List.{list_all}
use Rattle.lv_clauses.specs.Literals.{lit_holds}
use Rattle.lv_asking.proofs.refutation.first_false.Given as goal

abbrev pub invariant-loop-place : goal.invariant-loop-place
invariant-loop-place l = list_all (lit_holds l.values) (take l.place l.lits) ≡ true
