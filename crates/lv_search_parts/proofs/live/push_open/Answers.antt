-- each member has a forced pair
use Rattle.std.proofs.Common.{sym}
use Rattle.lv_search_parts.proofs.LiveLemmas.{open_without, open_pushed}
use Rattle.lv_search_parts.proofs.live.push_open.Goals as goal

pub returns-then-is_forced : goal.returns-then-is_forced
returns-then-is_forced c pairs rest o = open_without c.args.masks.now pairs c.args.left.now.items c.args.pair rest (sym (rw c.if-is_forced.true at c.is_forced.ensures)) o

pub returns : goal.returns
returns c pairs rest o = open_pushed c.args.masks.now pairs c.args.left.now.items c.push.new.self.items c.args.pair rest c.in_ok-push.ensures.items o
