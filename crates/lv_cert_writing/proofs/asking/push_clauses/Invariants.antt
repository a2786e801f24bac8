use Rattle.std.proofs.Common.{◌≡◌, ◌++◌, map}
use Rattle.lv_cert_writing.specs.BlockLines.{derived_of}
use Rattle.lv_cert_writing.specs.Lines.{clause_lines}
use Rattle.lv_cert_writing.proofs.asking.push_clauses.Given as goal

abbrev pub invariant-loop-line : goal.invariant-loop-line
invariant-loop-line l = l.lines.items ++ clause_lines (map derived_of l.line-iterator.rest.items) ≡ l.initial.lines.items ++ clause_lines (map derived_of l.initial.line-iterator.rest.items)
