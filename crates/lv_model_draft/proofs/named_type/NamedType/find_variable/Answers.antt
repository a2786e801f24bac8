use Rattle.std.proofs.Common.{◌∙◌, ap, length}
use Rattle.lv_model.specs.declared.plant.ComponentType.{ComponentType}
use Rattle.lv_model.specs.declared.plant.Variable.{Variable}
use Rattle.lv_model.specs.Names.{variable_named}
use Rattle.lv_model_draft.proofs.NameLemmas.{place_found, short_place}
use Rattle.lv_model_draft.proofs.named_type.NamedType.find_variable.Goals as goal

pub returns-clause-place : goal.returns-clause-place
returns-clause-place c =
    place_found (λ (v : Variable). v.name) c.args.word.now c.self.inside.variables c.self.inside.lists.variables c.args.self.now.variables c.find.result c.find.ensures c.self.invariant
    (ap (λ (t : ComponentType). t.variables) c.self.view_is)

pub returns-clause-within : goal.returns-clause-within
returns-clause-within c =
    short_place (variable_named c.args.word.now) c.args.self.now.variables c.find.result c.len-count.result (returns-clause-place c)
    (c.len-count.ensures ∙ ap (λ (t : ComponentType). length t.variables) c.self.view_is) c.len-count.type_inv
