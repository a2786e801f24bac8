-- The summary of the model that was made, or why that is refused.
use Rattle.std.proofs.Common.{◌≡◌, rules, subst, List, ℕ}
use Rattle.lv_gen.specs.Series.{model_text}
use Rattle.lv_checker.specs.Verdicts.{IsVerdict, accepted}
use Rattle.lv_run.proofs.ExpectedLemmas.{refused_same}
use Rattle.lv_run.proofs.inputs.load_summary.Goals as goal

pub returns-in_err-model-clause-refused : goal.returns-in_err-model-clause-refused
returns-in_err-model-clause-refused c =
    let made : c.as_slice.result.now ≡ model_text c.args.number = search rules in
    refused_same c.from_residual-in_err-model.result c.in_err-model.field-0.0 _ _ c.from_residual-in_err-model.ensures.1 c.in_err-model.ensures.refused made

pub returns-clause-text : goal.returns-clause-text
returns-clause-text c =
    let made : c.as_slice.result.now ≡ model_text c.args.number = search rules in
    record {
      plant = c.in_ok-model.model;
      verdict = subst (λ (l : List ℕ). IsVerdict l (accepted c.in_ok-model.model)) made c.in_ok-model.ensures.model;
      summary_is = c.in_ok-drive.ensures;
    }
