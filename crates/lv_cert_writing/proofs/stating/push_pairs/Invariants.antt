use Rattle.std.proofs.Common.{◌≡◌, ◌++◌, drop}
use Rattle.lv_cert_writing.specs.Lines.{pair_numbers}
use Rattle.lv_cert_writing.proofs.stating.push_pairs.Given as goal

abbrev pub invariant-loop-pair : goal.invariant-loop-pair
invariant-loop-pair l = l.out ++ pair_numbers (drop l.pair-index l.pairs) ≡ l.initial.out ++ pair_numbers l.pairs
