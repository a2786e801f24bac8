-- the clauses of one step are the model's
use Rattle.std.proofs.Common.{◌∙◌}
use Rattle.std.proofs.lemmas.Result.{IfOk-weaker}
use Rattle.lv_compile.proofs.WindowLemmas.{one_step}
use Rattle.lv_compile.proofs.plant_clauses.model_clauses.Goals as goal

pub returns : goal.returns
returns c = IfOk-weaker c.window_clauses.result _ _ (λ out is. is ∙ one_step c.args.model.now) c.window_clauses.ensures
