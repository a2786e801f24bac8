-- what is to hold before the step speaks of values that there are
use Rattle.std.proofs.Common.{ℕ, List, All, sym, subst, ap, ◌∙◌}
use Rattle.lv_model.specs.Lists.{sizes}
use Rattle.lv_meaning.specs.declared.facts.Observation.{Observation}
use Rattle.lv_meaning.specs.Facts.{HasValue}
use Rattle.lv_system.specs.lv_compile.Booleans.{Booleans}
use Rattle.lv_plant_step.proofs.AskedLemmas.{begin_have}
use Rattle.lv_plant_step.proofs.literals.asked_literals.Goals as goal

pub push_observed-requires : goal.push_observed-requires
push_observed-requires c =
    subst (λ (ns : List ℕ). All (HasValue ns) c.as_slice.result.now) (sym (ap (λ (b : Booleans). b.sizes) (c.bools_at.ensures ∙ c.requires.system.before)))
    (subst (λ (os : List Observation). All (HasValue (sizes c.args.model.now)) os) (sym (c.as_slice.ensures.value ∙ c.in_ok-facts.ensures))
    (begin_have c.args.model.now c.args.asked.now c.requires.fits))
