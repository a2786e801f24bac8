use Rattle.std.proofs.Common.{◌∙◌, refl, sym, ap}
use Rattle.lv_model.specs.declared.plant.ComponentType.{ComponentType}
use Rattle.lv_model_draft.specs.Names.{names_of}
use Rattle.lv_model_draft.specs.declared.directory.Directory.{Directory}
use Rattle.lv_model_draft.proofs.NameLemmas.{where_ok, named_last, tables_last}
use Rattle.lv_model_draft.proofs.named_plant.NamedPlant.add_type.Goals as goal

pub invariant_of-self : goal.invariant_of-self
invariant_of-self c =
    let held = ap (λ (names : Directory). names.types) c.self.invariant in
    let more = named_last (λ (x : ComponentType). x.name) _ _ c.self.inside.plant.types _ c.args.of _ _ refl held refl refl refl in
    let tables = tables_last _ _ c.self.inside.plant.types _ c.args.of _ (ap (λ (names : Directory). names.variables) c.self.invariant) refl refl refl in
    where_ok _ c.note_type.result _ c.in-Ok.is c.note_type.ensures.names
    ∙ (λ i. record { domains = (c.self.invariant i).domains; types = more i; parts = (c.self.invariant i).parts; variables = tables i; prices = (c.self.invariant i).prices })
    ∙ ap names_of (sym (where_ok _ c.note_type.result _ c.in-Ok.is c.note_type.ensures.plant))
