use Rattle.lv_plant_step.proofs.StepLemmas.{is_first}
use Rattle.lv_plant_step.proofs.laws.plant_step_is_first.Goals as goal

pub returns : goal.returns
returns c = is_first
