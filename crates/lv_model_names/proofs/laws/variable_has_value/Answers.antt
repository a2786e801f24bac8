use Rattle.lv_model_names.proofs.PositiveLemmas.{variable_has_value}
use Rattle.lv_model_names.proofs.laws.variable_has_value.Goals as goal

pub returns : goal.returns
returns c = variable_has_value
