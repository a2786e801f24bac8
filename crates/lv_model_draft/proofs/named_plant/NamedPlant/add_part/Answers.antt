use Rattle.std.proofs.Common.{◌∙◌, refl, sym, ap}
use Rattle.lv_model.specs.declared.plant.Part.{Part}
use Rattle.lv_model_draft.specs.Names.{names_of}
use Rattle.lv_model_draft.specs.declared.directory.Directory.{Directory}
use Rattle.lv_model_draft.proofs.NameLemmas.{where_ok, named_last}
use Rattle.lv_model_draft.proofs.named_plant.NamedPlant.add_part.Goals as goal

pub invariant_of-self : goal.invariant_of-self
invariant_of-self c =
    let held = ap (λ (names : Directory). names.parts) c.self.invariant in
    let more = named_last (λ (x : Part). x.name) _ _ c.self.inside.plant.parts _ c.args.part _ _ refl held refl refl refl in
    where_ok _ c.note_part.result _ c.in-Ok.is c.note_part.ensures.names
    ∙ (λ i. record { domains = (c.self.invariant i).domains; types = (c.self.invariant i).types; parts = more i; variables = (c.self.invariant i).variables; prices = (c.self.invariant i).prices })
    ∙ ap names_of (sym (where_ok _ c.note_part.result _ c.in-Ok.is c.note_part.ensures.plant))
