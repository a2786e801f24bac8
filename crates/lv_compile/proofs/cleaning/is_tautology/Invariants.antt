-- the clause is one exactly where what is left is
use Rattle.std.proofs.Common.{◌≡◌, length}
use Rattle.lv_compile.specs.Cleaning.{is_tautology}
use Rattle.lv_compile.proofs.cleaning.is_tautology.Given as goal

abbrev pub invariant-loop-first : goal.invariant-loop-first
invariant-loop-first l = is_tautology l.rest ≡ is_tautology l.lits

abbrev pub decreases-loop-first : goal.decreases-loop-first
decreases-loop-first l = length l.rest
