-- what was put and what is left are both lists
use Rattle.std.proofs.Common.{◌≡◌, ◌++◌}
use Rattle.lv_compile.proofs.clause_lists.push_all.Given as goal

abbrev pub invariant-loop-clause : goal.invariant-loop-clause
invariant-loop-clause l = l.out.items ++ l.clause-iterator.rest.items ≡ l.initial.out.items ++ l.fn.clauses.items
