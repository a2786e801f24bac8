-- what is told of the zone with fewer choices is told of the zone
use Rattle.std.proofs.lemmas.Result.{IfOk-weaker}
use Rattle.lv_guide.proofs.NearLemmas.{near_less, least_less, none_narrowed}
use Rattle.lv_guide.proofs.near.least_free_near.Goals as goal

pub first_near-requires : goal.first_near-requires
first_near-requires c = near_less c.args.grid.now c.args.zone.now c.in-Some.less c.args.known.now c.args.near.now (rw (c.in-Some.is, c.conflicts.ensures) at c.in_ok-less.ensures) c.requires

pub returns-in-Some-clause-least : goal.returns-in-Some-clause-least
returns-in-Some-clause-least c =
    IfOk-weaker c.first_near.result _ _
    (λ least told. least_less c.args.grid.now c.args.zone.now c.in-Some.less c.args.known.now least (rw (c.in-Some.is, c.conflicts.ensures) at c.in_ok-less.ensures) told)
    c.first_near.ensures.least

pub returns-in-None-clause-least : goal.returns-in-None-clause-least
returns-in-None-clause-least c = none_narrowed c.args.grid.now c.args.zone.now c.args.known.now (rw (c.in-None.is, c.conflicts.ensures) at c.in_ok-less.ensures)
