-- what was added and what the moves that are left deny are all
use Rattle.std.proofs.Common.{◌≡◌, ◌++◌, drop}
use Rattle.lv_compile.specs.ModelClauses.{closed_clauses}
use Rattle.lv_compile.proofs.moves.closed_clauses.Given as goal

abbrev pub invariant-loop-m : goal.invariant-loop-m
invariant-loop-m l = l.out.items ++ closed_clauses l.bools l.base l.mode.0 (drop l.m-index l.moves) ≡ closed_clauses l.bools l.base l.mode.0 l.moves
