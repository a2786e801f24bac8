-- where the mask has no choices, the prices are as they were
use Rattle.std.proofs.Common.{sym}
use Rattle.lv_search_bans.proofs.PriceLemmas.{lowered_none}
use Rattle.lv_search_bans.proofs.prices.Row.lower.Goals as goal

pub returns-then-mask-eq0 : goal.returns-then-mask-eq0
returns-then-mask-eq0 c = sym (lowered_none 0 c.args.mask c.args.by _ c.if-mask-eq0.true)
