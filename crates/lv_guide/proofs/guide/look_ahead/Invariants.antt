-- the zones have the same members that contain no known conflict
use Rattle.std.proofs.Common.{◌≡◌}
use Rattle.lv_guide.specs.Guide.{HasSameFree, stale_in}
use Rattle.lv_guide.proofs.guide.look_ahead.Given as goal

abbrev pub invariant-loop-alloc : goal.invariant-loop-alloc
invariant-loop-alloc l =
    record {
      known : l.known ≡ l.fn.known;
      same : HasSameFree l.grid l.known l.fn.queue.entries l.queue.entries;
    }

abbrev pub decreases-loop-alloc : goal.decreases-loop-alloc
decreases-loop-alloc l = stale_in l.known l.queue.entries
