-- what its names stand for fits, and its text is read back
use Rattle.std.proofs.Common.{sym, ◌∙◌}
use Rattle.lv_session_request.proofs.GoalLaws.{goal_is_in}
use Rattle.lv_session_request.proofs.goals.goal_as.Goals as goal

pub returns-clause-within : goal.returns-clause-within
returns-clause-within c =
    goal_is_in c.args.names.plant.now c.args.names.lists.now c.in_ok-name.name c.from_vec-text.result c.args.phrase.now c.in_ok-formula.formula c.in_ok-formula-2.formula c.requires.names c.requires.back
    c.in_ok-formula.ensures.ok (sym c.simple.ensures ∙ c.in_ok-formula-2.was) (c.from_vec-text.ensures ∙ c.in_ok-print_phrase.ensures)
