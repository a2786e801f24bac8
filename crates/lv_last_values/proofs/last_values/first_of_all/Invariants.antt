-- the clauses left are all true exactly where all are
use Rattle.std.proofs.Common.{◌≡◌, drop}
use Rattle.lv_clauses.specs.ClauseMap.{satisfies}
use Rattle.lv_last_values.proofs.last_values.first_of_all.Given as goal

abbrev pub invariant-loop-key : goal.invariant-loop-key
invariant-loop-key l = satisfies l.values (drop l.key l.set.slots) ≡ satisfies l.values l.set.slots
