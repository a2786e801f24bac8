use Rattle.lv_plant.proofs.FollowedLemmas.{starts, runs}
use Rattle.lv_plant.proofs.laws.plant_runs_on.Goals as goal

pub returns : goal.returns
returns c = record { start = starts; line = runs }
