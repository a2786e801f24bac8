-- the booleans of the literals gone through are told
use Rattle.std.proofs.Common.{◌≡◌, length}
use Rattle.lv_last_values.specs.Occurrences.{AreTurned}
use Rattle.lv_last_values.proofs.last_values.make_false.Given as goal

abbrev pub invariant-loop-lit : goal.invariant-loop-lit
invariant-loop-lit l = record { len : length l.values ≡ length l.fn.values; turned : AreTurned l.fn.values l.values l.turned.items }
