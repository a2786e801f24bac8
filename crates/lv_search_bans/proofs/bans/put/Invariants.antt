-- none has taken them in so far
use Rattle.std.proofs.Common.{◌≡◌}
use Rattle.lv_search_bans.proofs.bans.put.Given as goal

abbrev pub invariant-loop-place : goal.invariant-loop-place
invariant-loop-place l = l.bans.items ≡ l.fn.bans.items
