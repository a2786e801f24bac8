-- one pair more
use Rattle.std.proofs.Common.{refl}
use Rattle.lv_search_parts.proofs.LiveLemmas.{open_next}
use Rattle.lv_search_parts.proofs.live.write_open.Goals as goal

pub loop-pair-preserved : goal.loop-pair-preserved
loop-pair-preserved c =
    open_next c.args.masks.now c.args.pairs.now c.loop-pair.left.items c.push_open.new.left.items c.loop-pair.pair-index _ _ c.loop-pair-test.true refl c.in_ok-push_open.ensures c.loop-pair.invariant
