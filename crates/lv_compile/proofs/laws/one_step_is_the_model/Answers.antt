use Rattle.lv_compile.proofs.WindowLemmas.{one_step}
use Rattle.lv_compile.proofs.laws.one_step_is_the_model.Goals as goal

pub returns : goal.returns
returns c = λ plant. one_step plant
