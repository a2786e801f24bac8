-- what is left of the row is what stands behind the link
use Rattle.std.proofs.Common.{◌≡◌, ◌⊎◌, ℕ, true, inl, sym, ap, ◌∙◌, subst, arith}
use Rattle.lv_last_values.specs.Rows.{Holds}
use Rattle.lv_last_values.specs.Occurrences.{id_holds}
use Rattle.lv_last_values.proofs.RowLemmas.{held_left, held_end}
use Rattle.lv_last_values.proofs.last_values.first_in.Goals as goal

pub loop-place-init : goal.loop-place-init
loop-place-init c = record { within = c.head-place.ensures.within; left = λ id held. inl (subst (Holds c.args.occurrences.now.links id) (sym c.head-place.ensures.value) held) }

pub loop-place-preserved : goal.loop-place-preserved
loop-place-preserved c =
    record {
      within = omega (arith, c.link-link.ensures.before, c.next-place.ensures, c.loop-place.invariant.within);
      left = λ id held.
          subst (λ (n : ℕ). Holds c.args.occurrences.now.links id n ⊎ (id_holds c.args.values.now c.args.set.now.slots id ≡ true)) (sym c.next-place.ensures)
          (held_left c.args.occurrences.now.links c.loop-place.place c.link-link.result (id_holds c.args.values.now c.args.set.now.slots) id c.link-link.ensures.value
          (ap (id_holds c.args.values.now c.args.set.now.slots) (sym c.id.ensures) ∙ c.if-is_false.ensures) (c.loop-place.invariant.left id held));
    }

pub returns-clause-none : goal.returns-clause-none
returns-clause-none c = λ id held. held_end c.args.occurrences.now.links c.loop-place.place id (id_holds c.args.values.now c.args.set.now.slots id) c.loop-place-test.false (c.loop-place.invariant.left id held)
