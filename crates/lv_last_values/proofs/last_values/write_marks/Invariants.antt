-- the values of the booleans gone through keep their marks, and those that turned are told
use Rattle.lv_last_values.specs.Occurrences.{AreTurned}
use Rattle.lv_last_values.proofs.LastValuesLemmas.{KeepBefore}
use Rattle.lv_last_values.proofs.last_values.write_marks.Given as goal

abbrev pub invariant-loop-var : goal.invariant-loop-var
invariant-loop-var l = record { keep : KeepBefore l.marks l.values l.var; turned : AreTurned l.fn.values l.values l.turned.items }
