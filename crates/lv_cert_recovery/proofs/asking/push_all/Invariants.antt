use Rattle.std.proofs.Common.{◌≡◌, ◌++◌}
use Rattle.lv_cert_recovery.proofs.asking.push_all.Given as goal

abbrev pub invariant-loop-clause : goal.invariant-loop-clause
invariant-loop-clause l = l.out.items ++ l.clause-iterator.rest.items ≡ l.initial.out.items ++ l.initial.clause-iterator.rest.items
