-- the part of what is held is the zone
use Rattle.std.proofs.Common.{sym, ◌∙◌, ap, subst}
use Rattle.lv_split_zones.specs.Searches.{IsLastBefore}
use Rattle.lv_split_zones.specs.Walk.{zone_held}
use Rattle.lv_split_zones.proofs.ClimbLemmas.{beside, none_beside}
use Rattle.lv_split_zones.proofs.walk.zone_beside.Goals as goal

pub returns-in_ok-part_of-in-Some-held-clause-zone : goal.returns-in_ok-part_of-in-Some-held-clause-zone
returns-in_ok-part_of-in-Some-held-clause-zone c =
    beside c.args.made.now c.requires.made c.args.place c.requires.place c.in-Some.split (subst (λ ss. IsLastBefore ss c.args.place c.in-Some.split) c.as_slice.ensures.value c.in-Some.ensures)
    c.in-Some-held.whole.zone c.in_ok-part_of-in-Some-held.field-0 (sym c.in_ok-hold.ensures.zone ∙ ap zone_held c.in-Some-held.is) c.in_ok-part_of-in-Some-held.ensures

pub returns-in-None-clause-zone : goal.returns-in-None-clause-zone
returns-in-None-clause-zone c =
    none_beside c.args.made.now c.requires.made c.args.place c.requires.place c.in-Some.split (subst (λ ss. IsLastBefore ss c.args.place c.in-Some.split) c.as_slice.ensures.value c.in-Some.ensures)
    (sym c.in_ok-hold.ensures.zone ∙ ap zone_held c.in-None.is)
