-- what is split is told, and its parts come behind the others
use Rattle.std.proofs.Common.{List, Option, ◌∙◌, ap, arith}
use Rattle.std.specs.Prelude.{slice_get}
use Rattle.lv_boxes.specs.Members.{ZoneValue}
use Rattle.lv_boxes.specs.GroupParts.{parts_by_groups}
use Rattle.lv_split_zones.specs.Made.{zones_made}
use Rattle.lv_split_zones.specs.Zones.{is_in}
use Rattle.lv_split_zones.proofs.MadeLemmas.{on_ok}
use Rattle.lv_split_zones.proofs.ZonesLemmas.{none_there, open_made, split_zones}
use Rattle.lv_split_zones.proofs.zones.SplitZones.split_by_groups.Goals as goal

pub returns-then-place-self : goal.returns-then-place-self
returns-then-place-self c =
    λ zone e.
    absurd
    (none_there (is_in c.self.inside.split) (zones_made c.self.inside.made) c.args.place _ (let past = c.if-place-self.true in let many = c.self.invariant.made.count in omega (arith, past, many))
    (ap (λ (zones : List (Option ZoneValue)). slice_get zones c.args.place) c.self.view_is ∙ e))

pub invariant_of-self-2 : goal.invariant_of-self-2
invariant_of-self-2 c =
    record {
      made = c.split_by_groups.ensures.made;
      few =
          c.mark.ensures.few c.split_by_groups.new.self.count (λ i there. let before = c.self.invariant.few i there in let more = c.split_by_groups.ensures.more in omega (arith, before, more))
          (let here = c.if-place-self.false in let more = c.split_by_groups.ensures.more in omega (arith, here, more));
    }

pub returns : goal.returns
returns c =
    λ zone e.
    on_ok c.mark.result
    (λ others.
    split_zones c.self.inside.split c.mark.new.split c.self.inside.made (zones_made c.split_by_groups.new.self) (parts_by_groups zone c.args.groups.now c.args.member.now) c.args.self.now c.args.place c.self.invariant c.self.view_is
    (c.in_ok-split_by_groups.ensures.parts zone (open_made (is_in c.self.inside.split) (zones_made c.self.inside.made) c.args.place zone (ap (λ (zones : List (Option ZoneValue)). slice_get zones c.args.place) c.self.view_is ∙ e)))
    c.if-place-self.false others)
    c.mark.ensures.split
