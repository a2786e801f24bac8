use Rattle.lv_plant.proofs.FollowedLemmas.{meets}
use Rattle.lv_plant.proofs.laws.recovery_is_followed.Goals as goal

pub returns : goal.returns
returns c = meets
