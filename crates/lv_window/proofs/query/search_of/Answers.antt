-- the zones' members without a joint are the trajectories
use Rattle.std.proofs.Common.{◌-◌, arith, ap, ◌∙◌}
use Rattle.std.proofs.lemmas.Result.{IfOk-weaker}
use Rattle.lv_window.proofs.QueryLemmas.{start, search_is, zones_apart}
use Rattle.lv_window.proofs.query.search_of.Goals as goal

pub new_with-requires : goal.new_with-requires
new_with-requires c = zones_apart c.args.model.now (c.args.steps - 1) c.args.tracked.now c.in_ok-zones.zones.items c.in_ok-zones.ensures

pub returns : goal.returns
returns c =
    let some = c.requires.some in
    let held =
    search_is c.args.model.now (rw c.plant-plant.ensures.plant at c.plant-plant.ensures.well_formed) c.args.tracked.now c.args.steps (c.args.steps - 1) (omega (arith, some)) c.in_ok-grid.grid c.in_ok-grid.ensures c.in_ok-zones.zones.items c.in_ok-zones.ensures
    c.in_ok-known.known.items c.in_ok-known.ensures in
    let left = c.in_ok-left.ensures ∙ held in
    IfOk-weaker c.new.result _ _ (λ s told. ap (λ v. v.standing) told ∙ ap (start c.args.k) left) c.new.ensures
