-- what was split is not there, and what wasn't is as it was made
use Rattle.std.proofs.Common.{List, Option, sym, ◌∙◌, ap}
use Rattle.lv_boxes.specs.Members.{ZoneValue}
use Rattle.lv_split_zones.specs.Made.{zones_made}
use Rattle.lv_split_zones.specs.Zones.{is_in, open_at}
use Rattle.lv_split_zones.proofs.MadeLemmas.{if_ok}
use Rattle.lv_split_zones.proofs.ZonesLemmas.{none_open, zone_open}
use Rattle.lv_split_zones.proofs.zones.SplitZones.zone_at.Goals as goal

pub returns-then-has : goal.returns-then-has
returns-then-has c =
    sym
    (ap (λ (zones : List (Option ZoneValue)). open_at zones c.args.place) (sym c.self.view_is)
    ∙ none_open (is_in c.self.inside.split) (zones_made c.self.inside.made) c.args.place (sym c.has.ensures ∙ c.if-has.true))

pub returns : goal.returns
returns c =
    if_ok c.zone_at.result
    (λ zone is.
    is ∙ sym (ap (λ (zones : List (Option ZoneValue)). open_at zones c.args.place) (sym c.self.view_is)
    ∙ zone_open (is_in c.self.inside.split) (zones_made c.self.inside.made) c.args.place (sym c.has.ensures ∙ c.if-has.false)))
    c.zone_at.ensures
