-- all zones are put in, and nothing is known
use Rattle.std.proofs.Common.{[], List, sym, subst, ◌∙◌, ap}
use Rattle.std.specs.Prelude.{Some}
use Rattle.lv_boxes.specs.Members.{ZoneValue}
use Rattle.lv_guide.specs.Guide.{left_in, IsGuide}
use Rattle.lv_guide.proofs.GuideLemmas.{room_in_empty, all_are_left}
use Rattle.lv_guide.proofs.SplitLemmas.{guide_at_start}
use Rattle.lv_guide.proofs.guide.Guide.new.Goals as goal

pub put_all-requires : goal.put_all-requires
put_all-requires c = room_in_empty c.args.grid c.args.zones.items c.new-queue.result.entries c.new-queue.ensures.empty c.requires

pub invariant_of-result : goal.invariant_of-result
invariant_of-result c =
    rw (c.in_ok-known.ensures ∙ c.new.ensures.items) (
    subst (λ (zones : List ZoneValue). IsGuide c.args.grid [] c.put_all.new.queue.entries (Some zones)) (sym (c.in_ok-whole.ensures ∙ c.as_slice.ensures.value))
    (guide_at_start c.args.grid c.args.zones.items c.new-queue.result.entries c.put_all.new.queue.entries c.new-queue.ensures.empty c.in_ok-put_all.ensures c.requires))

pub returns : goal.returns
returns c =
    ap (λ known. left_in c.args.grid known c.put_all.new.queue.entries) (c.in_ok-known.ensures ∙ c.new.ensures.items)
    ∙ all_are_left c.args.grid c.args.zones.items c.new-queue.result.entries c.put_all.new.queue.entries c.new-queue.ensures.empty c.in_ok-put_all.ensures
