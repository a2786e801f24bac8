-- the zones' members are the candidates
use Rattle.std.proofs.Common.{◌∙◌, ap}
use Rattle.std.proofs.lemmas.Result.{IfOk-weaker}
use Rattle.lv_search.specs.lv_boxes.RankedMembers.{sources_differ}
use Rattle.lv_search_zones.proofs.ZoneLemmas.{zones_differ}
use Rattle.lv_ident.proofs.QueryLemmas.{search_is, distinct_start, plain_start}
use Rattle.lv_ident.proofs.query.search_of.Goals as goal

pub new-requires : goal.new-requires
new-requires c = ap sources_differ c.in_ok-zones.ensures ∙ zones_differ c.args.model.now 0 c.args.tracked.now

pub new-requires-else-listing : goal.new-requires-else-listing
new-requires-else-listing c = ap sources_differ c.in_ok-zones.ensures ∙ zones_differ c.args.model.now 0 c.args.tracked.now

pub returns-in_ok-left : goal.returns-in_ok-left
returns-in_ok-left c =
    IfOk-weaker c.new_distinct.result _ _
    (λ s told.
    distinct_start c.args.model.now c.args.tracked.now c.args.listing.distinct c.args.listing.k c.in_ok-left.left
    (search_is c.args.model.now c.args.tracked.now c.in_ok-grid.grid c.in_ok-grid.ensures c.in_ok-zones.zones.items c.in_ok-zones.ensures c.in_ok-left.left c.in_ok-left.ensures)
    s.standing c.if-listing.true c.in_ok-targets.targets c.in_ok-targets.ensures (ap (λ v. v.standing) told))
    c.new_distinct.ensures

pub returns-in_ok-left-2 : goal.returns-in_ok-left-2
returns-in_ok-left-2 c =
    IfOk-weaker c.new-else-listing-2.result _ _
    (λ s told.
    plain_start c.args.model.now c.args.tracked.now c.args.listing.distinct c.args.listing.k c.in_ok-left-2.left
    (search_is c.args.model.now c.args.tracked.now c.in_ok-grid.grid c.in_ok-grid.ensures c.in_ok-zones.zones.items c.in_ok-zones.ensures c.in_ok-left-2.left c.in_ok-left-2.ensures)
    s.standing c.if-listing.false (ap (λ v. v.standing) told))
    c.new-else-listing-2.ensures
