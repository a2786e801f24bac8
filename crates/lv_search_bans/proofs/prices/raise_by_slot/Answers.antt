-- a member has a choice at each slot
use Rattle.lv_search_bans.proofs.PriceLemmas.{no_choice}
use Rattle.lv_search_bans.proofs.prices.raise_by_slot.Goals as goal

pub returns-clause-bound : goal.returns-clause-bound
returns-clause-bound c slots conflicts i = c.raise_bound.ensures.bound slots conflicts (no_choice slots conflicts c.args.masks.now c.args.slot) i
