use Rattle.std.proofs.Common.{◌≡◌, ◌++◌, drop}
use Rattle.lv_cert_writing.specs.Lines.{value_numbers}
use Rattle.lv_cert_writing.proofs.stating.push_values.Given as goal

abbrev pub invariant-loop-value : goal.invariant-loop-value
invariant-loop-value l = l.out ++ value_numbers (drop l.value-index l.values) ≡ l.initial.out ++ value_numbers l.values
