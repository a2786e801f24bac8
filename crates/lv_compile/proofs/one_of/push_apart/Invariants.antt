-- what was added, and that the booleans that are left are apart, say that all are
use Rattle.std.proofs.Common.{◌≡◌, ◌+◌, ◌-◌, ◌++◌}
use Rattle.lv_compile.specs.ModelClauses.{apart}
use Rattle.lv_compile.proofs.one_of.push_apart.Given as goal

abbrev pub invariant-loop-past : goal.invariant-loop-past
invariant-loop-past l = l.out.items ++ apart (l.first + l.past) (l.booleans - l.past) ≡ l.initial.out.items ++ apart l.first l.booleans
