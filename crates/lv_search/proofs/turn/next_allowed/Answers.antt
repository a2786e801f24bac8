-- whether the candidate has the target of a listed one, and whether a trial is left
use Rattle.std.proofs.Common.{sym, ◌∙◌}
use Rattle.lv_search.specs.Turn.{standing}
use Rattle.lv_search.proofs.NextLemmas.{is_repeated, used_up, is_trial}
use Rattle.lv_search.proofs.turn.next_allowed.Goals as goal

pub returns-then-has_alike : goal.returns-then-has_alike
returns-then-has_alike c left first =
    is_repeated (standing left c.args.held.now) c.args.rank first c.requires.fewer c.requires.allowed (sym c.has_alike.ensures ∙ c.if-has_alike.true)

pub returns-then-trials-budget : goal.returns-then-trials-budget
returns-then-trials-budget c left first =
    used_up (standing left c.args.held.now) c.args.rank first c.requires.fewer c.requires.allowed c.args.budget (sym c.has_alike.ensures ∙ c.if-has_alike.false) (sym c.trials.ensures ∙ c.if-trials-budget.true)

pub returns : goal.returns
returns c left first =
    is_trial (standing left c.args.held.now) c.args.rank first c.requires.fewer c.requires.allowed c.args.candidate c.args.budget
    (sym c.has_alike.ensures ∙ c.if-has_alike.false)
    (λ e. c.if-trials-budget.false (c.trials.ensures ∙ e))
    c.requires.candidate
