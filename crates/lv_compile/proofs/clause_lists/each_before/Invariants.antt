-- what stands there and what is left, made longer, are all
use Rattle.std.proofs.Common.{◌≡◌, ◌++◌, ◌∷◌, []}
use Rattle.std.specs.Vec.Iter.{into_iter_items}
use Rattle.lv_compile.specs.FormulaClauses.{product}
use Rattle.lv_compile.proofs.clause_lists.each_before.Given as goal

abbrev pub invariant-loop-front : goal.invariant-loop-front
invariant-loop-front l =
    record {
      can : (goal.iterator-loop-front).can_next l.front-iterator;
      ends : (goal.iterator-loop-front).is_finite l.front-iterator;
      rest : l.out.items ++ product (into_iter_items l.front-iterator) (l.back ∷ []) ≡ product l.fn.fronts.items (l.back ∷ []);
    }
