-- what its names stand for fits
use Rattle.std.proofs.Common.{ap, ◌∙◌}
use Rattle.lv_model_names.specs.declared.lists.Lists.{Lists}
use Rattle.lv_cert_meaning.proofs.GoalLemmas.{goal_within}
use Rattle.lv_cert_meaning.proofs.goals.formula_of.Goals as goal

pub returns-then-is_simple-clause-fits : goal.returns-then-is_simple-clause-fits
returns-then-is_simple-clause-fits c =
    goal_within c.args.plant.now c.as_slice.result.now c.args.phrase.now c.in-Ok.f (c.as_slice.ensures ∙ ap (λ (l : Lists). l.ranges) c.requires) c.in-Ok.ensures.ok
