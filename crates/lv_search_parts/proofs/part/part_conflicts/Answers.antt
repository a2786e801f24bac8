-- one conflict more, held or not
use Rattle.std.proofs.Common.{sym, ◌+◌, ◌∙◌, ap, subst, take, List, [], ◌∷◌, ◌++◌}
use Rattle.lv_base.specs.declared.search.Pair.{Pair}
use Rattle.lv_search_parts.specs.Parts.{inner_of, IsLiveOf}
use Rattle.lv_search_parts.proofs.InnerLemmas.{inner_held, inner_not_held}
use Rattle.lv_search_parts.proofs.part.part_conflicts.Goals as goal
use Rattle.lv_search_parts.proofs.part.part_conflicts.Goals.{then-branch+in_ok-from_pairs+in_ok-push, else-branch}

pub loop-conflict-preserved : goal.loop-conflict-preserved
loop-conflict-preserved c =
    elim c.if-branch.branch [
      | then-branch+in_ok-from_pairs+in_ok-push w ↦ inner_held c.args.marks.now c.args.masks.now c.args.conflicts.now c.loop-conflict.conflict-index _ c.pairs.result.now c.write_live.new.left.items c.loop-conflict.inner.items c.if-branch.inner.items
          c.loop-conflict-test.true (c.pairs.ensures.pairs ∙ c.conflict-item.is) (sym c.in_ok-write_live.ensures.held ∙ w.if-branch.true) (c.in_ok-write_live.ensures.left w.if-branch.true)
          (ap (λ v. v.items) w.inner-is ∙ w.in_ok-push.ensures.items ∙ ap (λ (left : List Pair). c.loop-conflict.inner.items ++ left ∷ []) (w.in_ok-from_pairs.ensures ∙ w.as_slice-then-branch.ensures.value)) c.loop-conflict.invariant
      | else-branch w ↦ subst (λ (live : List (List Pair)). IsLiveOf (inner_of c.args.marks.now (take (c.loop-conflict.conflict-index + 1) c.args.conflicts.now)) c.args.masks.now live) (sym (ap (λ v. v.items) w.inner-is))
          (inner_not_held c.args.marks.now c.args.masks.now c.args.conflicts.now c.loop-conflict.conflict-index _ c.pairs.result.now c.loop-conflict.inner.items c.loop-conflict-test.true (c.pairs.ensures.pairs ∙ c.conflict-item.is)
          (sym c.in_ok-write_live.ensures.held ∙ w.if-branch.false) c.loop-conflict.invariant)
    ]
