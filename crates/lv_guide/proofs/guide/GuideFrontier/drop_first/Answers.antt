-- the parts have the others
use Rattle.std.proofs.Common.{List, refl, ap, ◌∙◌, drop}
use Rattle.lv_base.specs.declared.search.Pair.{Pair}
use Rattle.lv_guide.specs.Guide.{left_in}
use Rattle.lv_guide.proofs.GuideLemmas.{ready_is, drop_is}
use Rattle.lv_guide.proofs.guide.GuideFrontier.drop_first.Goals as goal

pub part_first-requires : goal.part_first-requires
part_first-requires c =
    ready_is c.self.inside.grid c.self.inside.known c.self.inside.known c.self.inside.queue.entries c.replace-queue.result.entries c.replace-queue.result.entries
    (ap (λ queue. queue.entries) c.replace-queue.ensures.value) refl c.self.invariant.ready

pub returns : goal.returns
returns c =
    ap (λ (known : List (List Pair)). left_in c.self.inside.grid known c.go_ahead.new.queue.entries) c.in_ok-go_ahead.ensures.known
    ∙ drop_is c.self.inside.grid c.self.inside.known c.self.inside.known c.self.inside.queue.entries c.replace-queue.result.entries c.go_ahead.new.queue.entries
    (ap (λ queue. queue.entries) c.replace-queue.ensures.value) c.part_first.new.queue.entries refl c.in_ok-part_first.ensures c.in_ok-go_ahead.ensures.same
    ∙ ap (drop 1) c.self.view_is
