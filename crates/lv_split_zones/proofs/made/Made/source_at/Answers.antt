-- a part has the source of what was split
use Rattle.std.proofs.Common.{sym, ◌∙◌, ap, subst, option_map, None}
use Rattle.lv_boxes.specs.Members.{ZoneValue}
use Rattle.lv_split_zones.specs.Searches.{IsLastBefore, IsSplitOf}
use Rattle.lv_split_zones.proofs.ClimbLemmas.{zone_before, zone_there, source_above, first_is}
use Rattle.lv_split_zones.proofs.made.Made.source_at.Goals as goal

pub loop-split-smaller : goal.loop-split-smaller
loop-split-smaller c = zone_before c.args.self.now c.requires c.loop-split.at c.loop-split.invariant.there c.in-Some.split (subst (λ ss. IsLastBefore ss c.loop-split.at c.in-Some.split) c.as_slice.ensures.value c.in-Some.ensures)

pub loop-split-preserved : goal.loop-split-preserved
loop-split-preserved c =
    record {
      there = zone_there c.args.self.now c.requires c.loop-split.at c.loop-split.invariant.there c.in-Some.split (subst (λ ss. IsLastBefore ss c.loop-split.at c.in-Some.split) c.as_slice.ensures.value c.in-Some.ensures);
      same =
          c.loop-split.invariant.same
          ∙ source_above c.args.self.now c.requires c.loop-split.at c.loop-split.invariant.there c.in-Some.split (subst (λ ss. IsLastBefore ss c.loop-split.at c.in-Some.split) c.as_slice.ensures.value c.in-Some.ensures);
    }

pub returns : goal.returns
returns c =
    c.first_source.ensures
    ∙ ap (option_map (λ (zone : ZoneValue). zone.source)) (sym (first_is c.args.self.now c.loop-split.at c.requires (subst (λ ss. IsSplitOf ss c.loop-split.at None) c.as_slice.ensures.value (subst (IsSplitOf c.as_slice.result.now c.loop-split.at) c.in_default.is c.split_of.ensures))))
    ∙ sym c.loop-split.invariant.same
