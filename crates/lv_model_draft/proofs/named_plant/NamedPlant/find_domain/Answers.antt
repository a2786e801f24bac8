use Rattle.std.proofs.Common.{ap}
use Rattle.lv_model.specs.declared.plant.Plant.{Plant}
use Rattle.lv_model.specs.declared.plant.Domain.{Domain}
use Rattle.lv_model_draft.specs.declared.directory.Directory.{Directory}
use Rattle.lv_model_draft.proofs.NameLemmas.{place_found}
use Rattle.lv_model_draft.proofs.named_plant.NamedPlant.find_domain.Goals as goal

pub returns : goal.returns
returns c =
    place_found (λ (x : Domain). x.name) c.args.word.now c.self.inside.names.domains c.self.inside.plant.domains c.args.self.now.domains c.find.result c.find.ensures
    (ap (λ (names : Directory). names.domains) c.self.invariant)
    (ap (λ (p : Plant). p.domains) c.self.view_is)
