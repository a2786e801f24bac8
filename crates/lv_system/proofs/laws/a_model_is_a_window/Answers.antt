use Rattle.lv_system.proofs.WindowLemmas.{model_is_a_window}
use Rattle.lv_system.proofs.laws.a_model_is_a_window.Goals as goal

pub returns : goal.returns
returns c = λ plant h steps s is values all. model_is_a_window plant h steps s is values all
