-- what was split is not there, and what wasn't is as it was made
use Rattle.std.proofs.Common.{List, Option, sym, ◌∙◌, ap, arith}
use Rattle.lv_boxes.specs.Members.{ZoneValue}
use Rattle.lv_split_zones.specs.Made.{zones_made}
use Rattle.lv_split_zones.specs.Zones.{is_in, open_at}
use Rattle.lv_split_zones.proofs.MadeLemmas.{if_ok}
use Rattle.lv_split_zones.proofs.ZonesLemmas.{past_open, none_open, zone_open}
use Rattle.lv_split_zones.proofs.walk.Walk.zone_at.Goals as goal

pub returns-then-place-self-clause-zone : goal.returns-then-place-self-clause-zone
returns-then-place-self-clause-zone c =
    sym
    (ap (λ (zones : List (Option ZoneValue)). open_at zones c.args.place) (sym c.self.view_is)
    ∙ past_open (is_in c.self.inside.split.now) (zones_made c.self.inside.made.now) c.args.place (let past = c.if-place-self.true in let many = c.self.invariant.0.count in omega (arith, past, many)))

pub returns-then-has-clause-zone : goal.returns-then-has-clause-zone
returns-then-has-clause-zone c =
    sym
    (ap (λ (zones : List (Option ZoneValue)). open_at zones c.args.place) (sym c.self.view_is)
    ∙ none_open (is_in c.self.inside.split.now) (zones_made c.self.inside.made.now) c.args.place (sym c.has.ensures ∙ c.if-has.true))

pub returns-clause-zone : goal.returns-clause-zone
returns-clause-zone c =
    if_ok c.zone_beside.result
    (λ zone is.
    is ∙ sym (ap (λ (zones : List (Option ZoneValue)). open_at zones c.args.place) (sym c.self.view_is)
    ∙ zone_open (is_in c.self.inside.split.now) (zones_made c.self.inside.made.now) c.args.place (sym c.has.ensures ∙ c.if-has.false)))
    c.zone_beside.ensures.zone
