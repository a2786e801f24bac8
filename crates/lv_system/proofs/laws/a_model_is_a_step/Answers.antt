use Rattle.lv_system.proofs.SystemLemmas.{model_is_a_step}
use Rattle.lv_system.proofs.laws.a_model_is_a_step.Goals as goal

pub returns : goal.returns
returns c = λ plant h s is values long all. model_is_a_step plant h s is values all
