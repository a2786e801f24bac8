-- what is left is a clause exactly where all is
use Rattle.std.proofs.Common.{◌≡◌, drop}
use Rattle.lv_clauses.specs.Literals as Literals
use Rattle.lv_clauses.proofs.literals.is_clause.Given as goal

abbrev pub invariant-loop-at : goal.invariant-loop-at
invariant-loop-at l = Literals.is_clause l.bools (drop l.at l.lits) ≡ Literals.is_clause l.bools l.lits
