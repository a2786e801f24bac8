use Rattle.std.proofs.Common.{◌≡◌, ◌++◌, drop}
use Rattle.lv_session_state.proofs.replies.copied_conflicts.Given as goal

-- what was copied, with the conflicts that are left, is all
abbrev pub invariant-loop-conflict : goal.invariant-loop-conflict
invariant-loop-conflict l = l.out.items ++ drop l.conflict-index l.conflicts ≡ l.conflicts
