-- the query begins with the search
use Rattle.std.proofs.Common.{List, length, ap, ◌∙◌}
use Rattle.std.proofs.lemmas.Result.{IfOk-weaker}
use Rattle.lv_meaning.specs.declared.facts.Facts.{Facts}
use Rattle.lv_window.specs.Trajectories.{trajectories}
use Rattle.lv_window.proofs.QueryLemmas.{start, start_is, start_is_query}
use Rattle.lv_window.proofs.query.window.Goals as goal

pub returns-clause-start : goal.returns-clause-start
returns-clause-start c =
    let begins = c.in_ok-search.ensures ∙ ap (λ (fs : List Facts). start c.args.k (trajectories c.args.model.now (length fs) c.args.tracked.now)) c.as_slice.ensures.value in
    IfOk-weaker c.started.result _ _
    (λ q made. start_is c.args.model.now c.args.steps.items c.args.tracked.now c.args.k c.in_ok-search.search.standing begins q made)
    c.started.ensures

pub returns-clause-query : goal.returns-clause-query
returns-clause-query c =
    let begins = c.in_ok-search.ensures ∙ ap (λ (fs : List Facts). start c.args.k (trajectories c.args.model.now (length fs) c.args.tracked.now)) c.as_slice.ensures.value in
    IfOk-weaker c.started.result _ _
    (λ q made. start_is_query c.args.model.now c.args.steps.items c.args.tracked.now c.args.k q
    (start_is c.args.model.now c.args.steps.items c.args.tracked.now c.args.k c.in_ok-search.search.standing begins q made))
    c.started.ensures
