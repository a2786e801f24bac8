use Rattle.lv_system.proofs.SystemLemmas.{step_has_a_model}
use Rattle.lv_system.proofs.laws.a_step_has_a_model.Goals as goal

pub returns : goal.returns
returns c = step_has_a_model
