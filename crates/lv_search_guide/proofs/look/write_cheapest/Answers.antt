-- the first cheapest choices of all slots are a cheapest member
use Rattle.lv_search_guide.proofs.SearchLemmas.{written_some, written_none}
use Rattle.lv_search_guide.proofs.look.write_cheapest.Goals as goal

pub returns-clause-some : goal.returns-clause-some
returns-clause-some c = written_some _ c.args.grid.now _ c.args.masks.now _ _ c.slots.ensures.slots c.as_slice.ensures c.write_least.ensures.sum c.write_least.ensures.written c.write_least.ensures.bound

pub returns-clause-none : goal.returns-clause-none
returns-clause-none c = written_none _ c.args.grid.now _ c.args.masks.now _ c.slots.ensures.slots c.as_slice.ensures c.write_least.ensures.sum
