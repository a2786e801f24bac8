use Rattle.std.proofs.Common.{◌∙◌, refl, sym, ap}
use Rattle.lv_model.specs.declared.plant.Domain.{Domain}
use Rattle.lv_model_draft.specs.Names.{names_of}
use Rattle.lv_model_draft.specs.declared.directory.Directory.{Directory}
use Rattle.lv_model_draft.proofs.NameLemmas.{where_ok, named_last}
use Rattle.lv_model_draft.proofs.named_plant.NamedPlant.add_domain.Goals as goal

pub invariant_of-self : goal.invariant_of-self
invariant_of-self c =
    let held = ap (λ (names : Directory). names.domains) c.self.invariant in
    let more = named_last (λ (x : Domain). x.name) _ _ c.self.inside.plant.domains _ c.args.domain _ _ refl held refl refl refl in
    where_ok _ c.note_domain.result _ c.in-Ok.is c.note_domain.ensures.names
    ∙ (λ i. record { domains = more i; types = (c.self.invariant i).types; parts = (c.self.invariant i).parts; variables = (c.self.invariant i).variables; prices = (c.self.invariant i).prices })
    ∙ ap names_of (sym (where_ok _ c.note_domain.result _ c.in-Ok.is c.note_domain.ensures.plant))
