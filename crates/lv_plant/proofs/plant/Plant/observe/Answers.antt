-- an observation doesn't end the session
use Rattle.lv_plant.proofs.PlantLemmas.{observed_kept}
use Rattle.lv_plant.proofs.plant.Plant.observe.Goals as goal

pub invariant_of-self-2 : goal.invariant_of-self-2
invariant_of-self-2 c =
    observed_kept c.self.inside.compiled.now c.self.inside.session c.perform.new.self c.self.inside.stepper.value c.self.inside.modes.items c.self.inside.faults.items c.args.sighting c.perform.result
    c.self.invariant c.perform.ensures.state c.perform.ensures.err
