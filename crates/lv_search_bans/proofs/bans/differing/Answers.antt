-- one place more
use Rattle.std.proofs.Common.{◌+◌, ◌<◌, ◌∙◌, subst, sym}
use Rattle.lv_search_bans.proofs.BanLemmas.{IsAlikeSoFar, alike_same, alike_other, same_sets}
use Rattle.lv_search_bans.proofs.bans.differing.Goals.{then-ne+else-is_some+else-one-place, else-ne}
use Rattle.lv_search_bans.proofs.bans.differing.Goals as goal

pub loop-place-preserved : goal.loop-place-preserved
loop-place-preserved c =
    elim c.if-ne.branch [
      | then-ne+else-is_some+else-one-place w ↦ subst (IsAlikeSoFar c.args.one.now c.args.other.now (c.loop-place.place + 1)) (sym w.found-is)
          (alike_other c.args.one.now c.args.other.now c.loop-place.place c.loop-place.found (record { slot = 0; mask = 0 }) c.loop-place-test.true (subst (λ n. c.loop-place.place < n) c.if-one-other.false c.loop-place-test.true) w.if-one-place.false
          (sym w.is_some.ensures ∙ w.if-is_some.false) c.loop-place.invariant)
      | else-ne w ↦ subst (IsAlikeSoFar c.args.one.now c.args.other.now (c.loop-place.place + 1)) (sym w.found-is)
          (alike_same c.args.one.now c.args.other.now c.loop-place.place c.loop-place.found (record { slot = 0; mask = 0 }) c.loop-place-test.true (subst (λ n. c.loop-place.place < n) c.if-one-other.false c.loop-place-test.true)
          (same_sets _ _ (sym c.ne.ensures ∙ w.if-ne.false)) c.loop-place.invariant)
    ]
