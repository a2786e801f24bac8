use Rattle.std.proofs.Common.{◌≡◌, ◌+◌, ◌++◌, drop}
use Rattle.lv_reply.specs.Diagnosis.{listed_lines}
use Rattle.lv_reply.proofs.diagnosis.push_lines.Given as goal

-- what was added, with the lines of the candidates that are left, is all
abbrev pub invariant-loop-i : goal.invariant-loop-i
invariant-loop-i l = l.out.items ++ listed_lines l.plant l.steps (l.i + 1) (drop l.i l.ranks) ≡ l.initial.out.items ++ listed_lines l.plant l.steps 1 l.ranks
