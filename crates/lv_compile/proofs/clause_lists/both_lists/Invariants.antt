-- what was put and what is left are both lists
use Rattle.std.proofs.Common.{◌≡◌, ◌++◌}
use Rattle.lv_compile.proofs.clause_lists.both_lists.Given as goal

abbrev pub invariant-loop-clause : goal.invariant-loop-clause
invariant-loop-clause l = l.front.items ++ l.clause-iterator.rest.items ≡ l.initial.front.items ++ l.fn.back.items
