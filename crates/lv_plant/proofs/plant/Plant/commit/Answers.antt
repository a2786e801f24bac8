-- a commit doesn't end the session
use Rattle.lv_plant.proofs.PlantLemmas.{committed_kept}
use Rattle.lv_plant.proofs.plant.Plant.commit.Goals as goal

pub invariant_of-self : goal.invariant_of-self
invariant_of-self c =
    committed_kept c.self.inside.compiled.now c.self.inside.session c.perform.new.self c.self.inside.stepper.value c.self.inside.modes.items c.self.inside.faults.items c.perform.result
    c.self.invariant c.perform.ensures.state c.perform.ensures.err
