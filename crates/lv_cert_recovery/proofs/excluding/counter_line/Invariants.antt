use Rattle.std.proofs.Common.{◌≡◌, ◌++◌, drop}
use Rattle.lv_cert_writing.specs.Lines.{numbers_of}
use Rattle.lv_cert_recovery.specs.Keeping.{choices_of}
use Rattle.lv_cert_recovery.proofs.excluding.counter_line.Given as goal

abbrev pub invariant-loop-pair : goal.invariant-loop-pair
invariant-loop-pair l = l.numbers ++ numbers_of (choices_of (drop l.pair-index l.pairs)) ≡ l.initial.numbers ++ numbers_of (choices_of l.pairs)
