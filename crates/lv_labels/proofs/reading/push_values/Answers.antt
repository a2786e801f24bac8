-- the value is found and told, or isn't
use Rattle.std.proofs.Common.{◌≡◌, ◌+◌, ◌++◌, filter, true, false, sym, ap, refl, ◌∙◌}
use Rattle.lv_base.specs.declared.ids.Lit.{Lit}
use Rattle.lv_ltms.specs.Trail.{trail_has}
use Rattle.lv_labels.specs.Labels.{label_of, value_labels}
use Rattle.lv_labels.specs.Assuming.{is_on_trail}
use Rattle.lv_labels.proofs.ReadingLemmas.{value_passes, value_fails}
use Rattle.lv_labels.proofs.reading.push_values.Goals.{then-is_found+in_ok-push, else-is_found}
use Rattle.lv_labels.proofs.reading.push_values.Goals as goal

pub loop-n-preserved : goal.loop-n-preserved
loop-n-preserved c = elim c.if-is_found.branch [
  | then-is_found+in_ok-push w ↦
      let passes : is_on_trail c.args.ltms.now.trail c.args.values.now (label_of c.args.moment c.args.var.0 c.loop-n.n) ≡ true =
      ap (λ (l : Lit). trail_has c.args.ltms.now.trail l) (sym c.literal.ensures) ∙ sym c.is_found.ensures ∙ w.if-is_found.true in
      let x = label_of c.args.moment c.args.var.0 c.loop-n.n in
      let new : w.push.new.self.items ≡ c.args.out.now.items ++ filter (is_on_trail c.args.ltms.now.trail c.args.values.now) (value_labels c.args.moment c.args.var.0 (c.loop-n.n + 1)) =
      value_passes (is_on_trail c.args.ltms.now.trail c.args.values.now) (label_of c.args.moment c.args.var.0) c.args.out.now.items c.loop-n.out.items c.loop-n.n c.loop-n.invariant w.push.new.self.items x w.in_ok-push.ensures.items refl passes in
      rw w.out-is new
  | else-is_found w ↦
      let fails : is_on_trail c.args.ltms.now.trail c.args.values.now (label_of c.args.moment c.args.var.0 c.loop-n.n) ≡ false =
      ap (λ (l : Lit). trail_has c.args.ltms.now.trail l) (sym c.literal.ensures) ∙ sym c.is_found.ensures ∙ w.if-is_found.false in
      rw w.out-is (value_fails (is_on_trail c.args.ltms.now.trail c.args.values.now) (label_of c.args.moment c.args.var.0) c.args.out.now.items c.loop-n.out.items c.loop-n.n c.loop-n.invariant fails)
]
