-- what is left gives the rest
use Rattle.std.proofs.Common.{◌≡◌, ◌++◌, drop, map}
use Rattle.lv_clauses.specs.Literals.{neg}
use Rattle.lv_sat.proofs.front.negate_all.Given as goal

abbrev pub invariant-loop-lit : goal.invariant-loop-lit
invariant-loop-lit l = l.all ++ map neg (drop l.lit-index l.lits) ≡ map neg l.lits
