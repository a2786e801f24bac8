-- what is left contains the conflict no longer
use Rattle.std.proofs.Common.{List, [], ◌∷◌, ◌++◌, ap, subst, sym, ◌∙◌}
use Rattle.lv_base.specs.declared.rank.Rank.{Rank}
use Rattle.lv_base.specs.declared.search.Pair.{Pair}
use Rattle.lv_search.specs.Frontier.{FirstContains, Thins}
use Rattle.lv_guide.specs.Guide.{left_in}
use Rattle.lv_guide.proofs.GuideLemmas.{split_keeps, split_is}
use Rattle.lv_guide.proofs.SplitLemmas.{split_whole}
use Rattle.lv_guide.proofs.guide.GuideFrontier.split_first.Goals as goal

pub go_ahead-requires-clause-kept : goal.go_ahead-requires-clause-kept
go_ahead-requires-clause-kept c =
    split_keeps c.self.inside.grid c.self.inside.known c.push.new.self c.self.inside.queue.entries c.replace-queue.result.entries c.replace-queue.result.entries
    (ap (λ queue. queue.entries) c.replace-queue.ensures.value) c.args.conflict.now
    (c.in_ok-push.ensures ∙ ap (λ (pairs : List Pair). c.self.inside.known ++ pairs ∷ []) (c.in_ok-from_pairs.ensures ∙ c.pairs.ensures.pairs)) c.self.invariant.ready.kept

pub go_ahead-requires-clause-whole : goal.go_ahead-requires-clause-whole
go_ahead-requires-clause-whole c =
    split_whole c.self.inside.grid c.self.inside.known c.push.new.self c.args.conflict.now c.self.inside.queue.entries c.replace-queue.result.entries c.self.inside.course.whole c.allow_more.new.self.whole
    (ap (λ queue. queue.entries) c.replace-queue.ensures.value)
    (c.in_ok-push.ensures ∙ ap (λ (pairs : List Pair). c.self.inside.known ++ pairs ∷ []) (c.in_ok-from_pairs.ensures ∙ c.pairs.ensures.pairs))
    (c.allow_more.ensures ∙ ap (λ course. course.whole) c.replace-course.ensures.value)
    c.self.invariant.whole_is

pub returns : goal.returns
returns c =
    let known_now = c.in_ok-push.ensures ∙ ap (λ (pairs : List Pair). c.self.inside.known ++ pairs ∷ []) (c.in_ok-from_pairs.ensures ∙ c.pairs.ensures.pairs) in
    subst (λ (known : List (List Pair)). Thins c.args.conflict.now c.args.self.now (left_in c.self.inside.grid known c.go_ahead.new.queue.entries)) (sym c.in_ok-go_ahead.ensures.known)
    (subst (λ (left : List Rank). Thins c.args.conflict.now left (left_in c.self.inside.grid c.push.new.self c.go_ahead.new.queue.entries)) c.self.view_is
    (split_is c.self.inside.grid c.self.inside.known c.push.new.self c.self.inside.queue.entries c.replace-queue.result.entries c.go_ahead.new.queue.entries
    (ap (λ queue. queue.entries) c.replace-queue.ensures.value) c.args.conflict.now c.push.new.self (known_now) known_now c.in_ok-go_ahead.ensures.same
    (subst (λ (left : List Rank). FirstContains c.args.conflict.now left) (sym c.self.view_is) c.requires)))
