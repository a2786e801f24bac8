use Rattle.std.proofs.Common.{rules, ◌≡◌, [], Some, slice_get, get_or, set, refl, sym, ◌∙◌, ap, subst}
use Rattle.std.proofs.lemmas.Option.{slice_get_read}
use Rattle.lv_lanes.specs.Standing.{turned}
use Rattle.lv_lanes.specs.Replies.{AreReplies, no_errands}
use Rattle.lv_lanes.proofs.LoopLemmas.{seen_at, mapped_one, some_further, none_further}
use Rattle.lv_lanes.proofs.named.answer_all_open.Goals as goal
use Rattle.lv_lanes.proofs.named.answer_all_open.Goals.{in-Some+in_ok-push, in_default}

pub loop-lane-init : goal.loop-lane-init
loop-lane-init g c = record {
  lanes = refl;
  replies = subst (λ rs. AreReplies g.L.Responder.says [] rs) (sym c.new-replies.ensures.items) no_errands;
}

pub loop-lane-preserved : goal.loop-lane-preserved
loop-lane-preserved g c =
    let i = c.loop-lane.lane-index in
    let ls = c.args.lanes.now in
    let l = c.lane-item.result in
    let line = c.args.line.now in
    let f = turned g.L.Responder.next g.L.Lane.is_open line in
    let here = get_or c.loop-lane.lanes i l in
    let read : slice_get c.loop-lane.lanes i ≡ Some l = search (rules, slice_get_read) in
    let same : here ≡ l = sym c.lane-item.is in
    let has : slice_get ls i ≡ Some l = sym (seen_at f ls i) ∙ ap (λ xs. slice_get xs i) (sym c.loop-lane.invariant.lanes) ∙ read in
    record {
      lanes =
          ap (λ x. set c.loop-lane.lanes i x) c.in_ok-reply.ensures.goes ∙ ap (λ x. set c.loop-lane.lanes i (f x)) same
          ∙ ap (λ xs. set xs i (f l)) c.loop-lane.invariant.lanes ∙ mapped_one f ls i l has;
      replies = elim c.match-branch-2.branch [
        | in-Some+in_ok-push w ↦
            some_further g.L.Responder.says g.L.Lane.is_open line ls i l here has same c.in_ok-reply.field-0 w.in-Some.reply
            c.loop-lane.replies.items c.match-branch-2.replies.items w.in-Some.is c.in_ok-reply.ensures.some c.loop-lane.invariant.replies
            (ap (λ v. v.items) w.replies-is ∙ w.in_ok-push.ensures.items)
        | in_default w ↦
            none_further g.L.Responder.says g.L.Lane.is_open line ls i l here has same c.in_ok-reply.field-0
            c.loop-lane.replies.items c.match-branch-2.replies.items w.in_default.is c.in_ok-reply.ensures.none c.loop-lane.invariant.replies
            (ap (λ v. v.items) w.replies-is)
      ];
    }
