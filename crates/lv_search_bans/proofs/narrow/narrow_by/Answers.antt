-- what one of the bans takes out all conflicts take out
use Rattle.std.proofs.Common.{◌∙◌}
use Rattle.lv_search_bans.proofs.NarrowLemmas.{ruled_by_ban}
use Rattle.lv_search_bans.proofs.narrow.narrow_by.Goals as goal

pub returns : goal.returns
returns c =
    c.take_out.ensures c.args.conflicts.now
    (ruled_by_ban c.args.conflicts.now c.bans-bans.result.now c.args.place c.index-bans-place.result c.sets.result.now c.if-place-bans.false (c.sets.ensures.sets ∙ c.index-bans-place.is) c.bans-bans.ensures)
