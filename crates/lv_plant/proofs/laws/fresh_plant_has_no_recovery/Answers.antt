use Rattle.lv_plant.proofs.RefusedLemmas.{fresh_refuses}
use Rattle.lv_plant.proofs.laws.fresh_plant_has_no_recovery.Goals as goal

pub returns : goal.returns
returns c = fresh_refuses
