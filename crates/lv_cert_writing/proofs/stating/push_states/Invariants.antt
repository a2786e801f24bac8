use Rattle.std.proofs.Common.{◌≡◌, ◌++◌, drop}
use Rattle.lv_cert_writing.specs.Lines.{state_lines}
use Rattle.lv_cert_writing.proofs.stating.push_states.Given as goal

abbrev pub invariant-loop-state : goal.invariant-loop-state
invariant-loop-state l = l.lines.items ++ state_lines (drop l.state-index l.tracked) ≡ l.initial.lines.items ++ state_lines l.tracked
