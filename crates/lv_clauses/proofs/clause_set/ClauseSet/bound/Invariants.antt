-- no clause present has a number from here on
use Rattle.std.proofs.Common.{ℕ, ◌<◌, IsSome}
use Rattle.lv_clauses.specs.ClauseMap.{clause_at}
use Rattle.lv_clauses.proofs.clause_set.ClauseSet.bound.Given as goal

abbrev pub invariant-loop-bound : goal.invariant-loop-bound
invariant-loop-bound l = (id : ℕ) → IsSome (clause_at l.self.slots id) → id < l.bound

abbrev pub decreases-loop-bound : goal.decreases-loop-bound
decreases-loop-bound l = l.bound
