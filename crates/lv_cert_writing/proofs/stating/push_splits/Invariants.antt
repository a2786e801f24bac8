use Rattle.std.proofs.Common.{◌≡◌, ◌++◌, drop}
use Rattle.lv_cert_writing.specs.Lines.{split_lines}
use Rattle.lv_cert_writing.proofs.stating.push_splits.Given as goal

abbrev pub invariant-loop-split : goal.invariant-loop-split
invariant-loop-split l = l.lines.items ++ split_lines (drop l.split-index l.made) ≡ l.initial.lines.items ++ split_lines l.made
