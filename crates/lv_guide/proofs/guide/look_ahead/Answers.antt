-- the known conflicts are those that there were
use Rattle.std.proofs.Common.{List, subst}
use Rattle.lv_base.specs.declared.search.Pair.{Pair}
use Rattle.lv_guide.specs.Guide.{HasSameFree}
use Rattle.lv_guide.proofs.guide.look_ahead.Goals as goal

pub returns-clause-same : goal.returns-clause-same
returns-clause-same c =
    subst (λ (known : List (List Pair)). HasSameFree c.args.grid.now known c.args.queue.now.entries c.loop-alloc.queue.entries) c.loop-alloc.invariant.known c.loop-alloc.invariant.same
