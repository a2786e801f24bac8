use Rattle.std.proofs.Common.{◌∙◌, sym, ap}
use Rattle.lv_model_draft.specs.Names.{names_of}
use Rattle.lv_model_draft.specs.Priced.{with_pair}
use Rattle.lv_model_draft.specs.declared.directory.Directory.{Directory}
use Rattle.lv_model_draft.proofs.NameLemmas.{where_ok}
use Rattle.lv_model_draft.proofs.PriceLemmas.{priced_last}
use Rattle.lv_model_draft.proofs.named_plant.NamedPlant.add_price.Goals as goal

pub invariant_of-self : goal.invariant_of-self
invariant_of-self c =
    let more =
    ap (λ (names : Directory). with_pair names.prices c.args.price.control.0 c.args.price.value.0) c.self.invariant ∙ sym (priced_last c.self.inside.plant.prices c.args.price) in
    where_ok _ c.note_price.result _ c.in-Ok.is c.note_price.ensures.names
    ∙ (λ i. record { domains = (c.self.invariant i).domains; types = (c.self.invariant i).types; parts = (c.self.invariant i).parts; variables = (c.self.invariant i).variables; prices = more i })
    ∙ ap names_of (sym (where_ok _ c.note_price.result _ c.in-Ok.is c.note_price.ensures.plant))
