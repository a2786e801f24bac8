-- a line that is handed on doesn't end the session
use Rattle.lv_plant.proofs.PlantLemmas.{handed_kept}
use Rattle.lv_plant.proofs.plant.Plant.hand_on.Goals as goal

pub invariant_of-self-2 : goal.invariant_of-self-2
invariant_of-self-2 c =
    handed_kept c.self.inside.compiled.now c.self.inside.session c.step.new.self c.self.inside.stepper.value c.self.inside.modes.items c.self.inside.faults.items c.args.line.now c.step.result c.self.invariant
    c.requires c.step.ensures.state c.step.ensures.err
