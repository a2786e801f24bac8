-- the variables so far
use Rattle.std.proofs.Common.{◌≡◌, ◌+◌, take, sum_by}
use Rattle.lv_model.specs.Counts.{held, values_count}
use Rattle.lv_model.proofs.counts.with_values.Given as goal

abbrev pub invariant-loop-v : goal.invariant-loop-v
invariant-loop-v l = l.out ≡ held (l.total + sum_by (values_count l.domains) (take l.v-index l.variables))
