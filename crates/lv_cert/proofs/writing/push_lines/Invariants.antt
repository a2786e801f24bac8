use Rattle.std.proofs.Common.{◌≡◌, ◌++◌, drop}
use Rattle.lv_cert.specs.Texts.{text_of}
use Rattle.lv_cert.proofs.writing.push_lines.Given as goal

-- what was added, with the lines that are left, is all
abbrev pub invariant-loop-line : goal.invariant-loop-line
invariant-loop-line l = l.out.items ++ text_of (drop l.line-index l.lines) ≡ l.initial.out.items ++ text_of l.lines
