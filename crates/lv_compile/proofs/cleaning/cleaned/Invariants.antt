-- what stands there and what is left, cleaned, are all
use Rattle.std.proofs.Common.{◌≡◌, ◌++◌}
use Rattle.std.specs.Vec.Iter.{into_iter_items}
use Rattle.lv_compile.specs.Cleaning.{cleaned}
use Rattle.lv_compile.proofs.cleaning.cleaned.Given as goal

abbrev pub invariant-loop-clause : goal.invariant-loop-clause
invariant-loop-clause l =
    record {
      can : (goal.iterator-loop-clause).can_next l.clause-iterator;
      ends : (goal.iterator-loop-clause).is_finite l.clause-iterator;
      rest : l.out.items ++ cleaned (into_iter_items l.clause-iterator) ≡ cleaned l.fn.clauses.items;
    }
