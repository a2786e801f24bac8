-- none has taken them in so far
use Rattle.std.proofs.Common.{◌≡◌}
use Rattle.lv_search_bans.proofs.bans.put_alike.Given as goal

abbrev pub invariant-loop-ban : goal.invariant-loop-ban
invariant-loop-ban l = l.bans.items ≡ l.fn.bans.items
