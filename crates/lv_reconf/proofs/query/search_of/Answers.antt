-- the zone's members are the command sets
use Rattle.std.proofs.Common.{[], ◌∷◌, ◌++◌, ◌∙◌, ap}
use Rattle.std.proofs.lemmas.Result.{IfOk-weaker}
use Rattle.lv_reconf.proofs.GoalLemmas.{well_of}
use Rattle.lv_reconf.proofs.QueryLemmas.{search_is}
use Rattle.lv_reconf.proofs.query.search_of.Goals as goal

pub returns : goal.returns
returns c =
    IfOk-weaker c.new-2.result _ _
    (λ s told.
    search_is c.args.model.now (well_of c.plant-plant.result.now c.args.model.now c.plant-plant.ensures.plant c.plant-plant.ensures.well_formed) c.in_ok-grid.grid c.in_ok-grid.ensures c.push.new.self.items
    (c.in_ok-push.ensures.items ∙ (λ i. c.new-zones.ensures.items i ++ (c.in_ok-command_zone.ensures i ∷ []))) c.in_ok-left.left c.in_ok-left.ensures s.standing (ap (λ v. v.standing) told))
    c.new-2.ensures
