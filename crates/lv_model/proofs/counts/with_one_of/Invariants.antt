-- one clause, and the pairs so far
use Rattle.std.proofs.Common.{◌≡◌, ◌+◌}
use Rattle.lv_model.specs.Counts.{held, one_of_count}
use Rattle.lv_model.proofs.counts.with_one_of.Given as goal

abbrev pub invariant-loop-others : goal.invariant-loop-others
invariant-loop-others l = l.out ≡ held (l.total + one_of_count l.others)
