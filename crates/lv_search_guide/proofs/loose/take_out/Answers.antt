-- one choice more
use Rattle.lv_search_guide.proofs.LooseLemmas.{takes_more}
use Rattle.lv_search_guide.proofs.loose.take_out.Goals as goal

pub loop-pair-preserved : goal.loop-pair-preserved
loop-pair-preserved c = takes_more c.args.pairs.now c.loop-pair.pair-index _ c.args.masks.now c.loop-pair.masks c.exclude.new.self c.loop-pair-test.true c.exclude.ensures c.loop-pair.invariant
