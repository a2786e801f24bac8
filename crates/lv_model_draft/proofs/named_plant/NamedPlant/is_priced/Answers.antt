use Rattle.std.proofs.Common.{◌∙◌, ap}
use Rattle.std.specs.List.{list_any}
use Rattle.lv_model.specs.Prices.{is_price_of}
use Rattle.lv_model.specs.declared.plant.Plant.{Plant}
use Rattle.lv_model_draft.specs.Priced.{has_pair}
use Rattle.lv_model_draft.specs.declared.directory.Directory.{Directory}
use Rattle.lv_model_draft.proofs.PriceLemmas.{has_priced}
use Rattle.lv_model_draft.proofs.named_plant.NamedPlant.is_priced.Goals as goal

pub returns : goal.returns
returns c =
    c.contains.ensures ∙ ap (λ (names : Directory). has_pair c.args.control.0 c.args.value.0 names.prices) c.self.invariant
    ∙ has_priced c.args.control.0 c.args.value.0 c.self.inside.plant.prices
    ∙ ap (λ (p : Plant). list_any (is_price_of c.args.control.0 c.args.value.0) p.prices) c.self.view_is
