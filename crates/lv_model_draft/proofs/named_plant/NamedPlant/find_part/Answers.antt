use Rattle.std.proofs.Common.{ap}
use Rattle.lv_model.specs.declared.plant.Plant.{Plant}
use Rattle.lv_model.specs.declared.plant.Part.{Part}
use Rattle.lv_model_draft.specs.declared.directory.Directory.{Directory}
use Rattle.lv_model_draft.proofs.NameLemmas.{place_found}
use Rattle.lv_model_draft.proofs.named_plant.NamedPlant.find_part.Goals as goal

pub returns : goal.returns
returns c =
    place_found (λ (x : Part). x.name) c.args.word.now c.self.inside.names.parts c.self.inside.plant.parts c.args.self.now.parts c.find.result c.find.ensures
    (ap (λ (names : Directory). names.parts) c.self.invariant)
    (ap (λ (p : Plant). p.parts) c.self.view_is)
