-- the clauses of the numbers before this one are in the rows
use Rattle.lv_last_values.specs.Occurrences.{NamesBelow}
use Rattle.lv_last_values.proofs.occurrences.Occurrences.of.Given as goal

abbrev pub invariant-loop-key : goal.invariant-loop-key
invariant-loop-key l = NamesBelow l.key l.set.slots l.occurrences
