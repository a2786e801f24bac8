-- what was added and the clauses made of what is left are all
use Rattle.std.proofs.Common.{◌≡◌, ◌++◌, map, drop}
use Rattle.lv_compile.proofs.clause_lists.push_longer.Given as goal

abbrev pub invariant-loop-back : goal.invariant-loop-back
invariant-loop-back l =
    l.out.items ++ map (λ q. l.front ++ q) (drop l.back-index l.backs) ≡ l.initial.out.items ++ map (λ q. l.front ++ q) l.backs
