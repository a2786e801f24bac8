-- the zones have the same members that contain no known conflict
use Rattle.lv_guide.specs.Guide.{HasSameFree}
use Rattle.lv_guide.proofs.guide.split_ahead.Given as goal

abbrev pub invariant-splits : goal.invariant-splits
invariant-splits l = HasSameFree l.grid l.known l.fn.queue.entries l.queue.entries

abbrev pub decreases-splits : goal.decreases-splits
decreases-splits l = l.left
