-- each step leads one zone up
use Rattle.std.proofs.Common.{sym, ◌∙◌, ap, subst, option_map, None}
use Rattle.std.specs.Prelude.{slice_get}
use Rattle.lv_split_zones.specs.Searches.{IsLastBefore, IsSplitOf}
use Rattle.lv_split_zones.specs.Splits.{zone_after}
use Rattle.lv_split_zones.specs.Made.{zones_made}
use Rattle.lv_split_zones.proofs.ClimbLemmas.{zone_before, zone_there, climbs, first_is}
use Rattle.lv_split_zones.proofs.made.climb.Goals as goal

pub loop-split-smaller : goal.loop-split-smaller
loop-split-smaller c = zone_before c.args.made.now c.requires.made c.loop-split.at c.loop-split.invariant.there c.in-Some.split (subst (λ ss. IsLastBefore ss c.loop-split.at c.in-Some.split) c.as_slice.ensures.value c.in-Some.ensures)

pub loop-split-preserved : goal.loop-split-preserved
loop-split-preserved c =
    record {
      there = zone_there c.args.made.now c.requires.made c.loop-split.at c.loop-split.invariant.there c.in-Some.split (subst (λ ss. IsLastBefore ss c.loop-split.at c.in-Some.split) c.as_slice.ensures.value c.in-Some.ensures);
      behind =
          climbs c.args.made.now c.requires.made c.loop-split.at c.loop-split.invariant.there c.in-Some.split (subst (λ ss. IsLastBefore ss c.loop-split.at c.in-Some.split) c.as_slice.ensures.value c.in-Some.ensures) c.args.place c.loop-split.path.items c.loop-split.invariant.behind
          ∙ ap (λ path. option_map (zone_after c.args.made.now.causes path) (slice_get (zones_made c.args.made.now) c.in-Some.split.zone)) (sym c.in_ok-push.ensures.items);
    }

pub returns : goal.returns
returns c =
    c.loop-split.invariant.behind
    ∙ ap (option_map (zone_after c.args.made.now.causes c.loop-split.path.items)) (first_is c.args.made.now c.loop-split.at c.requires.made (subst (λ ss. IsSplitOf ss c.loop-split.at None) c.as_slice.ensures.value (subst (IsSplitOf c.as_slice.result.now c.loop-split.at) c.in_default.is c.split_of.ensures)))
