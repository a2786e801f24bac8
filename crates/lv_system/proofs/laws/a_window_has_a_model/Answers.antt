use Rattle.lv_system.proofs.WindowLemmas.{window_has_a_model}
use Rattle.lv_system.proofs.laws.a_window_has_a_model.Goals as goal

pub returns : goal.returns
returns c = λ plant h s start on is at_start are feasible lead. window_has_a_model plant h start on at_start are s is feasible lead
