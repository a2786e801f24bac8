-- what is known of the step, before it and after it
use Rattle.std.proofs.Common.{List, All, sym, subst, ◌∙◌}
use Rattle.std.proofs.lemmas.Result.{IfOk-weaker}
use Rattle.lv_model.specs.Lists.{sizes}
use Rattle.lv_compile.specs.Booleans.{Booleans}
use Rattle.lv_meaning.specs.declared.facts.Observation.{Observation}
use Rattle.lv_meaning.specs.Facts.{HasValue}
use Rattle.lv_window.proofs.KnownLemmas.{step_known}
use Rattle.lv_window.proofs.known.push_step.Goals as goal

pub before_the_step-requires : goal.before_the_step-requires
before_the_step-requires c = c.requires.fits.fit

pub push_observed-requires : goal.push_observed-requires
push_observed-requires c =
    subst (λ (b : Booleans). All (HasValue b.sizes) c.as_slice.result.now) (sym c.bools_behind.ensures)
    (subst (λ (os : List Observation). All (HasValue (sizes c.args.model.now)) os) (sym (c.as_slice.ensures.value ∙ c.in_ok-before.ensures.observations)) c.requires.fits.in_range.now)

pub push_observed-requires-2 : goal.push_observed-requires-2
push_observed-requires-2 c =
    subst (λ (b : Booleans). All (HasValue b.sizes) c.as_slice-2.result.now) (sym c.bools_behind-2.ensures)
    (subst (λ (os : List Observation). All (HasValue (sizes c.args.model.now)) os) (sym c.as_slice-2.ensures) c.requires.fits.in_range.next)

pub returns : goal.returns
returns c =
    IfOk-weaker c.push_observed-2.result _ _
    (λ _ told. step_known c.args.model.now c.args.facts.now c.args.steps c.bools_behind.result.now c.bools_behind-2.result.now c.bools_behind.ensures c.bools_behind-2.ensures c.as_slice.result.now
    (c.as_slice.ensures.value ∙ c.in_ok-before.ensures.observations) c.as_slice-2.result.now c.as_slice-2.ensures c.args.out.now.items c.push_observed.new.out.items c.push_observed-2.new.out.items
    c.in_ok-push_observed.ensures told)
    c.push_observed-2.ensures
