-- each clause present from here on has a literal
use Rattle.std.proofs.Common.{◌≡◌, ◌⊎◌, ℕ, ◌<◌, false, IsSome}
use Rattle.lv_clauses.specs.ClauseMap.{clause_at}
use Rattle.lv_ltms.specs.Standing.{has_no_lits}
use Rattle.lv_ltms.proofs.arena.Arena.first_blank.Given as goal

abbrev pub invariant-loop-bound : goal.invariant-loop-bound
invariant-loop-bound l = (id : ℕ) → IsSome (clause_at l.self id) → (id < l.bound) ⊎ (has_no_lits (clause_at l.self id) ≡ false)

abbrev pub decreases-loop-bound : goal.decreases-loop-bound
decreases-loop-bound l = l.bound
