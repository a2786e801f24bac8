-- what was added and what the moves that are left ask for are all
use Rattle.std.proofs.Common.{◌≡◌, ◌++◌, drop}
use Rattle.lv_compile.specs.ModelClauses.{moves_clauses}
use Rattle.lv_compile.proofs.moves.push_moves.Given as goal

abbrev pub invariant-loop-others : goal.invariant-loop-others
invariant-loop-others l = l.out.items ++ moves_clauses l.copies.before l.copies.after l.at.base l.at.choice l.moves l.others (drop l.others l.moves) ≡ l.initial.out.items ++ moves_clauses l.copies.before l.copies.after l.at.base l.at.choice l.moves 0 l.moves
