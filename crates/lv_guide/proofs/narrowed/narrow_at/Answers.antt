-- one conflict after another
use Rattle.lv_search_bans.proofs.NarrowLemmas.{no_more_itself, no_more_on, none_after_all}
use Rattle.lv_guide.proofs.narrowed.narrow_at.Goals as goal

pub loop-place-init : goal.loop-place-init
loop-place-init c = no_more_itself c.args.conflicts.now c.args.masks.now

pub loop-place-preserved : goal.loop-place-preserved
loop-place-preserved c =
    no_more_on c.args.conflicts.now c.args.masks.now c.loop-place.masks c.narrow_one.new.masks c.loop-place.invariant (rw c.if-not-narrow_one.false at c.narrow_one.ensures)

pub returns-then-not-narrow_one : goal.returns-then-not-narrow_one
returns-then-not-narrow_one c = none_after_all c.args.conflicts.now c.args.masks.now c.loop-place.masks c.loop-place.invariant (rw c.if-not-narrow_one.true at c.narrow_one.ensures)
