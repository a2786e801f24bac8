use Rattle.lv_plant.proofs.FollowedLemmas.{follows, halts}
use Rattle.lv_plant.proofs.laws.plant_is_followed.Goals as goal

pub returns : goal.returns
returns c = record { stays_held = follows; halts = halts }
