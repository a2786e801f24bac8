use Rattle.std.proofs.Common.{◌≡◌, ◌++◌, drop}
use Rattle.lv_cert_recovery.specs.Showing.{goal_lines}
use Rattle.lv_cert_recovery.proofs.heading.push_goals.Given as goal

abbrev pub invariant-loop-text : goal.invariant-loop-text
invariant-loop-text l = l.lines.items ++ goal_lines (drop l.text-index l.texts) ≡ l.initial.lines.items ++ goal_lines l.texts
