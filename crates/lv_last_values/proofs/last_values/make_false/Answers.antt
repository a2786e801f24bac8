-- a boolean more, which is told
use Rattle.std.proofs.Common.{ap, ◌∙◌, length}
use Rattle.std.proofs.lemmas.List.{length-set}
use Rattle.lv_last_values.proofs.LastValuesLemmas.{turned_more}
use Rattle.lv_last_values.proofs.last_values.make_false.Goals as goal
use Rattle.lv_last_values.proofs.last_values.make_false.Goals.{then-index-values+in_ok-push, else-index-values}

pub loop-lit-preserved : goal.loop-lit-preserved
loop-lit-preserved c = elim c.if-index-values.branch [
  | then-index-values+in_ok-push w ↦
      record {
        len = ap length w.values-is ∙ length-set c.loop-lit.values _ _ ∙ c.loop-lit.invariant.len;
        turned =
            turned_more c.args.values.now c.loop-lit.values c.if-index-values.values _ _ c.loop-lit.turned.items c.if-index-values.turned.items w.values-is (ap (λ t. t.items) w.turned-is ∙ w.in_ok-push.ensures.items)
            c.loop-lit.invariant.turned;
      }
  | else-index-values w ↦ rw w.values-is (rw w.turned-is c.loop-lit.invariant)
]
