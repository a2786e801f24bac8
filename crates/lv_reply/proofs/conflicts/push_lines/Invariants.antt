use Rattle.std.proofs.Common.{◌≡◌, ◌+◌, ◌++◌, drop}
use Rattle.lv_reply.specs.Conflicts.{conflict_lines}
use Rattle.lv_reply.proofs.conflicts.push_lines.Given as goal

-- what was added, with the lines of the conflicts that are left, is all
abbrev pub invariant-loop-i : goal.invariant-loop-i
invariant-loop-i g l = l.out.items ++ conflict_lines (g.T.PairText.text l.texts) (l.i + 1) (drop l.i l.kept) ≡ l.initial.out.items ++ conflict_lines (g.T.PairText.text l.texts) 1 l.kept
