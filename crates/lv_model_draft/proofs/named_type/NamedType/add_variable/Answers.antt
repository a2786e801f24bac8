use Rattle.std.proofs.Common.{◌∙◌, refl, sym, ap}
use Rattle.lv_model.specs.declared.plant.Variable.{Variable}
use Rattle.lv_model_draft.specs.Names.{variable_places}
use Rattle.lv_model_draft.proofs.NameLemmas.{where_ok, named_last}
use Rattle.lv_model_draft.proofs.named_type.NamedType.add_variable.Goals as goal

pub invariant_of-self : goal.invariant_of-self
invariant_of-self c =
    (where_ok _ c.note_variable.result _ c.in-Ok.is c.note_variable.ensures.places)
    ∙ named_last (λ (v : Variable). v.name) _ _ c.self.inside.lists.variables _ c.args.variable _ _ refl c.self.invariant refl refl refl
    ∙ ap variable_places (sym (where_ok _ c.note_variable.result _ c.in-Ok.is c.note_variable.ensures.list))
