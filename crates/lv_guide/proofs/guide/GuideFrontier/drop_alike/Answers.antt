-- the parts by the first one's target have the others
use Rattle.std.proofs.Common.{refl, List, ap, sym, subst}
use Rattle.lv_base.specs.declared.rank.Rank.{Rank}
use Rattle.lv_base.specs.declared.search.Pair.{Pair}
use Rattle.lv_search.specs.Frontier.{LeavesOut}
use Rattle.lv_guide.specs.Guide.{left_in}
use Rattle.lv_guide.proofs.GuideLemmas.{ready_is}
use Rattle.lv_guide.proofs.AlikeLemmas.{alike_is}
use Rattle.lv_guide.proofs.guide.GuideFrontier.drop_alike.Goals as goal

pub part_alike-requires-clause-ready : goal.part_alike-requires-clause-ready
part_alike-requires-clause-ready c =
    ready_is c.self.inside.grid c.self.inside.known c.self.inside.known c.self.inside.queue.entries c.replace-queue.result.entries c.replace-queue.result.entries
    (ap (λ queue. queue.entries) c.replace-queue.ensures.value) refl c.self.invariant.ready

pub returns : goal.returns
returns c =
    subst (λ (known : List (List Pair)). LeavesOut c.args.groups.now c.args.self.now (left_in c.self.inside.grid known c.go_ahead.new.queue.entries)) (sym c.in_ok-go_ahead.ensures.known)
    (subst (λ (left : List Rank). LeavesOut c.args.groups.now left (left_in c.self.inside.grid c.self.inside.known c.go_ahead.new.queue.entries)) c.self.view_is
    (alike_is c.self.inside.grid c.args.groups.now c.self.inside.known c.self.inside.known c.self.inside.queue.entries c.replace-queue.result.entries c.part_alike.new.queue.entries c.go_ahead.new.queue.entries
    (ap (λ queue. queue.entries) c.replace-queue.ensures.value) refl c.in_ok-part_alike.ensures c.in_ok-go_ahead.ensures.same))
