-- nothing is claimed, and the clauses are the system's
use Rattle.std.proofs.Common.{◌≤◌, ◌∙◌, ℕ, replicate, ap, subst}
use Rattle.lv_clauses.specs.ClauseMap.{ClauseMap}
use Rattle.lv_clauses.specs.Marks.{nothing}
use Rattle.lv_model.specs.declared.plant.Plant.{Plant}
use Rattle.lv_model.specs.Lists.{variable_count}
use Rattle.lv_labels.specs.Literals.{mode_variables}
use Rattle.lv_labels.specs.Copying.{AreSame}
use Rattle.lv_labels.proofs.MadeLemmas.{new_kept, new_claiming}
use Rattle.lv_labels.proofs.fact_labels.FactLabels.new.Goals as goal

pub invariant_of-result : goal.invariant_of-result
invariant_of-result c =
    let set = c.clauses-set.ensures in
    new_kept c.args.model.now c.args.system.now c.requires c.in_ok-no_claims.field-0.items (record { before = c.in_ok-copied.field-0; after = c.in_ok-copied-2.field-0 }) c.in_ok-ltms_of.field-0
    (subst (λ (p : Plant). variable_count p ≤ 4096) c.plant.ensures.plant c.plant.ensures.few)
    (c.in_ok-no_claims.ensures ∙ ap (λ (n : ℕ). replicate n 0) (c.bools.ensures ∙ ap (λ (m : ClauseMap). m.bools) set))
    (c.in_ok-copied.ensures ∙ c.bools_at.ensures) (c.in_ok-copied-2.ensures ∙ c.bools_at-2.ensures)
    (c.in_ok-ltms_of.ensures.bools ∙ ap (λ (m : ClauseMap). m.bools) set)
    (c.in_ok-ltms_of.ensures.assumed ∙ ap (λ (m : ClauseMap). nothing m.bools) set)
    (subst (λ (m : ClauseMap). AreSame m.slots c.in_ok-ltms_of.field-0.clauses) set c.in_ok-ltms_of.ensures.same)

pub returns : goal.returns
returns c =
    let set = c.clauses-set.ensures in
    new_claiming c.args.model.now c.args.system.now c.requires c.in_ok-no_claims.field-0.items (record { before = c.in_ok-copied.field-0; after = c.in_ok-copied-2.field-0 }) c.in_ok-ltms_of.field-0
    (subst (λ (p : Plant). variable_count p ≤ 4096) c.plant.ensures.plant c.plant.ensures.few)
    (c.in_ok-no_claims.ensures ∙ ap (λ (n : ℕ). replicate n 0) (c.bools.ensures ∙ ap (λ (m : ClauseMap). m.bools) set))
    (c.in_ok-copied.ensures ∙ c.bools_at.ensures) (c.in_ok-copied-2.ensures ∙ c.bools_at-2.ensures)
    (c.in_ok-ltms_of.ensures.bools ∙ ap (λ (m : ClauseMap). m.bools) set)
    (c.in_ok-ltms_of.ensures.assumed ∙ ap (λ (m : ClauseMap). nothing m.bools) set)
    (subst (λ (m : ClauseMap). AreSame m.slots c.in_ok-ltms_of.field-0.clauses) set c.in_ok-ltms_of.ensures.same)
    c.in_ok-mode_variables.field-0.items (c.in_ok-mode_variables.ensures ∙ ap mode_variables c.plant.ensures.plant)
