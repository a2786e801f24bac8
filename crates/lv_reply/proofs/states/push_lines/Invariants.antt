use Rattle.std.proofs.Common.{◌≡◌, ◌+◌, ◌++◌, drop}
use Rattle.lv_reply.specs.States.{state_lines}
use Rattle.lv_reply.proofs.states.push_lines.Given as goal

-- what was added, with the lines of the states that are left, is all
abbrev pub invariant-loop-i : goal.invariant-loop-i
invariant-loop-i l = l.out.items ++ state_lines l.plant (l.i + 1) (drop l.i l.tracked) ≡ l.initial.out.items ++ state_lines l.plant 1 l.tracked
