-- what one of the bans takes out
use Rattle.std.proofs.Common.{subst, sym}
use Rattle.lv_search_bans.specs.Narrow.{IsNoMoreBy}
use Rattle.lv_search_bans.proofs.NarrowLemmas.{no_more_itself, no_more_after}
use Rattle.lv_guide.proofs.narrowed.narrow_one.Goals as goal

pub returns-in-Same : goal.returns-in-Same
returns-in-Same c = subst (λ new. IsNoMoreBy c.args.conflicts.now c.args.masks.now new) (sym (rw c.in-Same.is at c.narrow_by.ensures)) (no_more_itself c.args.conflicts.now c.args.masks.now)

pub returns-in-Less : goal.returns-in-Less
returns-in-Less c =
    no_more_after c.args.conflicts.now c.args.masks.now c.args.masks.now c.narrow_by.new.masks (no_more_itself c.args.conflicts.now c.args.masks.now) (rw c.in-Less.is at c.narrow_by.ensures)
