use Rattle.std.proofs.Common.{◌≡◌, ◌++◌, drop}
use Rattle.lv_cert_writing.specs.Lines.{fact_lines}
use Rattle.lv_cert_writing.proofs.stating.push_facts.Given as goal

abbrev pub invariant-loop-o : goal.invariant-loop-o
invariant-loop-o l = l.lines.items ++ fact_lines l.moment (drop l.o-index l.observations) ≡ l.initial.lines.items ++ fact_lines l.moment l.observations
