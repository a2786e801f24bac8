-- a forced slot is one less, and an open one is the last
use Rattle.std.proofs.Common.{sym, subst, ◌+◌}
use Rattle.lv_search_bans.proofs.NarrowLemmas.{IsLeaving, leaving_forced, leaving_open}
use Rattle.lv_search_bans.proofs.narrow.left_of.Goals.{in-Forced, in-Open+in-None}
use Rattle.lv_search_bans.proofs.narrow.left_of.Goals as goal

pub loop-set-preserved : goal.loop-set-preserved
loop-set-preserved c =
    elim c.match-stands_in.branch [
      | in-Forced w ↦ subst (IsLeaving c.args.masks.now c.args.sets.now (c.loop-set.set-index + 1)) (sym w.last-is)
          (leaving_forced c.args.masks.now c.args.sets.now c.loop-set.set-index _ c.loop-set.last c.loop-set-test.true (rw w.in-Forced.is at c.stands_in.ensures) c.loop-set.invariant)
      | in-Open+in-None w ↦ subst (IsLeaving c.args.masks.now c.args.sets.now (c.loop-set.set-index + 1)) (sym w.last-is)
          (leaving_open c.args.masks.now c.args.sets.now c.loop-set.set-index _ c.loop-set-test.true (rw w.in-Open.is at c.stands_in.ensures)
          (subst (IsLeaving c.args.masks.now c.args.sets.now c.loop-set.set-index) w.in-None.is c.loop-set.invariant))
    ]
