use Rattle.std.proofs.Common.{◌≡◌, ◌∙◌, List, IfOk, ap, subst}
use Rattle.lv_model.specs.declared.plant.Plant.{Plant}
use Rattle.lv_model.specs.declared.plant.ComponentType.{ComponentType}
use Rattle.lv_model.specs.declared.plant.Domain.{Domain}
use Rattle.lv_model.specs.Counts.{held, type_count}
use Rattle.lv_checker.proofs.checker.share_of_type.Goals as goal

pub returns : goal.returns
returns c =
    subst (λ (t : ComponentType). IfOk c.type_count.result (λ share. share ≡ held (type_count c.args.draft.now.plant.domains t))) c.as_type.ensures
    (subst (λ (domains : List Domain). IfOk c.type_count.result (λ share. share ≡ held (type_count domains c.as_type.result.now)))
    (c.as_slice.ensures ∙ ap (λ (p : Plant). p.domains) c.as_plant.ensures) c.type_count.ensures)
