-- the values so far whose literals are found
use Rattle.std.proofs.Common.{◌≡◌, ◌++◌, filter}
use Rattle.lv_labels.specs.Labels.{value_labels}
use Rattle.lv_labels.specs.Assuming.{is_on_trail}
use Rattle.lv_labels.proofs.reading.push_values.Given as goal

abbrev pub invariant-loop-n : goal.invariant-loop-n
invariant-loop-n l = l.out.items ≡ l.initial.out.items ++ filter (is_on_trail l.ltms.trail l.values) (value_labels l.moment l.var.0 l.n)
