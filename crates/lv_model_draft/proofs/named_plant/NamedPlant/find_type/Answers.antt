use Rattle.std.proofs.Common.{ap}
use Rattle.lv_model.specs.declared.plant.Plant.{Plant}
use Rattle.lv_model.specs.declared.plant.ComponentType.{ComponentType}
use Rattle.lv_model_draft.specs.declared.directory.Directory.{Directory}
use Rattle.lv_model_draft.proofs.NameLemmas.{place_found}
use Rattle.lv_model_draft.proofs.named_plant.NamedPlant.find_type.Goals as goal

pub returns : goal.returns
returns c =
    place_found (λ (x : ComponentType). x.name) c.args.word.now c.self.inside.names.types c.self.inside.plant.types c.args.self.now.types c.find.result c.find.ensures
    (ap (λ (names : Directory). names.types) c.self.invariant)
    (ap (λ (p : Plant). p.types) c.self.view_is)
