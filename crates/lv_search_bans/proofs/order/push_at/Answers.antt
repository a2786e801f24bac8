-- one of them more
use Rattle.std.proofs.Common.{rules, ◌∙◌}
use Rattle.lv_search_bans.proofs.BanLemmas.{bans_on}
use Rattle.lv_search_bans.proofs.order.push_at.Goals as goal

pub returns-in_ok-put : goal.returns-in_ok-put
returns-in_ok-put c conflicts r a =
    bans_on conflicts c.args.bans.now c.args.place _ c.sets.result.now c.args.sorted.now.items c.put.new.bans.items (search rules) (c.sets.ensures.sets ∙ c.index-bans-place.is) r a c.in_ok-put.ensures
