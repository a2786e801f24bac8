-- what the steps before this place came to
use Rattle.std.proofs.Common.{◌≡◌, List, length}
use Rattle.lv_base.specs.declared.ids.Lit.{Lit}
use Rattle.lv_clauses.specs.ClauseMap.{ClauseMap}
use Rattle.lv_cert_writing.specs.BlockLines.{IsRefuting}
use Rattle.lv_cert_writing.proofs.WalkLemmas.{IsSoFar}
use Rattle.lv_cert_writing.proofs.block_lines.lines_of.Given as goal

abbrev pub invariant-loop-place : goal.invariant-loop-place
invariant-loop-place l =
    (set : ClauseMap) (clauses : List (List Lit)) → length clauses ≡ l.before → IsRefuting set clauses l.numbers l.units l.log l.needed
    → IsSoFar set clauses l.log l.needed l.place l.lines l.placed.items
