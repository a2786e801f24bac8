-- a literal of a boolean of which none is assumed
use Rattle.std.proofs.Common.{◌≡◌, true, refl, subst, sym, ap, ap₂, ◌∙◌}
use Rattle.lv_clauses.specs.Literals.{in_range}
use Rattle.lv_clauses.specs.Marks.{Marks, is_marked}
use Rattle.lv_plant_step.specs.Assuming.{Assumption}
use Rattle.lv_plant_step.proofs.AssumedLemmas.{one_more_marked}
use Rattle.lv_plant_step.proofs.assumed.Assumed.assume.Goals as goal

pub invariant_of-self-2 : goal.invariant_of-self-2
invariant_of-self-2 c =
    one_more_marked c.self.inside.lits.items c.self.inside.marks.items c.self.invariant c.args.lit
    (subst (λ (s : Assumption). in_range s.bools c.args.lit ≡ true) (sym c.self.view_is) c.requires)
    (sym (ap (λ (ms : Marks). is_marked ms c.args.lit) c.as_slice.ensures.value) ∙ sym c.is_marked.ensures ∙ c.if-is_marked.false)
    (sym (ap₂ is_marked c.as_slice-2.ensures.value c.negation.ensures) ∙ sym c.is_marked-2.ensures ∙ c.if-is_marked-2.false) c.push.new.self.items _ c.in_ok-push.ensures.items refl
