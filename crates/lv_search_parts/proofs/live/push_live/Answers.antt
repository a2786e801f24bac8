-- no member contains a conflict that the box has not all choices of
use Rattle.std.proofs.Common.{sym}
use Rattle.lv_search_parts.proofs.LiveLemmas.{live_out}
use Rattle.lv_search_parts.proofs.live.push_live.Goals as goal

pub returns-then-not-are_there : goal.returns-then-not-are_there
returns-then-not-are_there c conflicts l = live_out conflicts c.args.masks.now c.args.live.now.items c.args.pairs.now (sym (rw c.if-not-are_there.true at c.are_there.ensures)) l
