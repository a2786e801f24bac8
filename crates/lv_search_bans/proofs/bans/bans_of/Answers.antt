-- one row more
use Rattle.std.proofs.Common.{◌∙◌, sym, subst}
use Rattle.lv_search_bans.specs.Bans.{AreBans}
use Rattle.lv_search_bans.proofs.BanLemmas.{bans_on}
use Rattle.lv_search_bans.proofs.bans.bans_of.Goals as goal

pub loop-row-preserved : goal.loop-row-preserved
loop-row-preserved c =
    bans_on c.args.conflicts.now c.as_slice-row-items.result.now c.loop-row.row-index c.row-item.result c.sets.result.now c.loop-row.bans.items c.put_alike.new.bans.items c.loop-row-test.true
    (c.sets.ensures.sets ∙ c.row-item.is) (subst (AreBans c.args.conflicts.now) (sym c.as_slice-row-items.ensures.value) c.in_ok-rows.ensures) c.loop-row.invariant c.in_ok-put_alike.ensures
