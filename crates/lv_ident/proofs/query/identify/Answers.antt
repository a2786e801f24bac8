-- the query begins with the search
use Rattle.std.proofs.lemmas.Result.{IfOk-weaker}
use Rattle.lv_ident.proofs.QueryLemmas.{start_is, start_is_query}
use Rattle.lv_ident.proofs.query.identify.Goals as goal

pub returns-clause-start : goal.returns-clause-start
returns-clause-start c =
    IfOk-weaker c.started.result _ _ (λ q made. start_is c.args.model.now c.args.facts c.args.listing.distinct c.args.listing.k c.args.tracked.now c.in_ok-search.search.standing c.in_ok-search.ensures q made) c.started.ensures

pub returns-clause-query : goal.returns-clause-query
returns-clause-query c =
    IfOk-weaker c.started.result _ _
    (λ q made. start_is_query c.args.model.now c.args.facts c.args.tracked.now c.args.listing.distinct c.args.listing.k q (start_is c.args.model.now c.args.facts c.args.listing.distinct c.args.listing.k c.args.tracked.now c.in_ok-search.search.standing c.in_ok-search.ensures q made))
    c.started.ensures
