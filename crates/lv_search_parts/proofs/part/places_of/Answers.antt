-- one mark more
use Rattle.std.proofs.Common.{List, ℕ, ◌+◌, sym, subst, arith}
use Rattle.lv_search_parts.specs.Parts.{ArePlaces}
use Rattle.lv_search_parts.proofs.PartLemmas.{places_begin, places_more, place_zero, place_next, few_more}
use Rattle.lv_search_parts.proofs.part.places_of.Goals as goal

pub loop-mark-init : goal.loop-mark-init
loop-mark-init c =
    record {
      places = subst (λ (ns : List ℕ). ArePlaces c.args.marks.now 0 ns) (sym c.new-places.ensures.items) (places_begin c.args.marks.now);
      now = sym (place_zero c.args.marks.now);
      few = omega arith;
    }

pub loop-mark-preserved : goal.loop-mark-preserved
loop-mark-preserved c =
    record {
      places =
          subst (λ (ns : List ℕ). ArePlaces c.args.marks.now (c.loop-mark.mark-index + 1) ns) (sym c.in_ok-push.ensures.items)
          (places_more c.args.marks.now c.loop-mark.mark-index c.loop-mark.places.items c.loop-mark.place c.loop-mark.invariant.now c.loop-mark.invariant.places);
      now = place_next c.args.marks.now c.loop-mark.mark-index c.loop-mark.place c.one_if-place.result _ c.loop-mark-test.true c.loop-mark.invariant.now c.one_if-place.ensures;
      few = few_more _ c.loop-mark.place c.loop-mark.mark-index c.one_if-place.result c.one_if-place.ensures c.loop-mark.invariant.few;
    }
