-- bound and prices hold from slot to slot and from ban to ban
use Rattle.std.proofs.Common.{◌∙◌}
use Rattle.lv_search_bans.proofs.PriceLemmas.{bound_begins}
use Rattle.lv_search_guide.proofs.problem.Search.priced_in.Goals as goal

pub returns : goal.returns
returns c =
    c.raise_by_bans.ensures c.args.self.now.grid.now
    (c.raise_by_slots-by_slots.ensures.bound c.args.self.now.grid.now c.args.self.now.conflicts.now
    (bound_begins c.args.self.now.grid.now c.args.self.now.conflicts.now c.args.masks.now c.fill_rows.new.rows.items (c.in_ok-fill_rows.ensures ∙ c.slots.ensures.slots)))
