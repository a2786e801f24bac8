-- a boolean more, which is told where it turns
use Rattle.std.proofs.Common.{◌+◌, ◌≡◌, Bool, false, Option, IfSome, List, get_or, not, refl, sym, ap, subst, ◌∙◌, inl, arith}
use Rattle.lv_last_values.proofs.LastValuesLemmas.{KeepBefore, keep_next, keep_same, turned_more}
use Rattle.lv_last_values.proofs.last_values.write_marks.Goals as goal
use Rattle.lv_last_values.proofs.last_values.write_marks.Goals.{then-turns+in_ok-push, else-turns}

pub loop-var-init : goal.loop-var-init
loop-var-init c = record { keep = record { len = c.requires.values ∙ sym c.requires.marks; marked = λ l before e. absurd (omega (arith, before)) }; turned = λ var. inl refl }

pub loop-var-preserved : goal.loop-var-preserved
loop-var-preserved c = elim c.if-turns.branch [
  | then-turns+in_ok-push w ↦
      record {
        keep =
            subst (λ (vs : List Bool). KeepBefore c.args.marks.now vs (c.loop-var.var + 1)) (sym w.values-is)
            (keep_next c.args.marks.now c.loop-var.values c.loop-var.var (not (get_or c.loop-var.values c.loop-var.var false)) (omega (arith, c.requires.marks, c.loop-var-test.true)) c.loop-var.invariant.keep
            (subst (λ (o : Option Bool). IfSome o (λ b. not (get_or c.loop-var.values c.loop-var.var false) ≡ b)) (sym (c.turns.ensures.yes w.if-turns.true)) refl));
        turned =
            turned_more c.args.values.now c.loop-var.values c.if-turns.values _ _ c.loop-var.turned.items c.if-turns.turned.items w.values-is (ap (λ t. t.items) w.turned-is ∙ w.in_ok-push.ensures.items)
            c.loop-var.invariant.turned;
      }
  | else-turns w ↦ rw w.values-is (rw w.turned-is (record { keep = keep_same c.args.marks.now c.loop-var.values c.loop-var.var c.loop-var.invariant.keep (c.turns.ensures.no w.if-turns.false); turned = c.loop-var.invariant.turned }))
]
