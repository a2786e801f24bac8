use Rattle.std.proofs.Common.{◌≡◌, ◌++◌, drop}
use Rattle.lv_session_state.proofs.replies.copied_ranks.Given as goal

-- what was copied, with the ranks that are left, is all
abbrev pub invariant-loop-rank : goal.invariant-loop-rank
invariant-loop-rank l = l.out.items ++ drop l.rank-index l.ranks ≡ l.ranks
