use Rattle.lv_plant_step.proofs.RecoveryLemmas.{recovery_reaches}
use Rattle.lv_plant_step.proofs.laws.applied_recovery_reaches.Goals as goal

pub returns : goal.returns
returns c = recovery_reaches
