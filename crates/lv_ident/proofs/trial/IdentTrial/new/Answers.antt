-- the booleans after the step are the plant's
use Rattle.std.proofs.Common.{◌∙◌}
use Rattle.lv_ident.proofs.trial.IdentTrial.new.Goals as goal

pub invariant_of-result : goal.invariant_of-result
invariant_of-result c = record {
  after_is = c.in_ok-after.ensures ∙ c.bools_at.ensures ∙ c.requires.system.after;
  tells = c.in_ok-asking.ensures.tells;
  solver = c.in_ok-asking.ensures.solver;
}
