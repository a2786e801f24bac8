-- each zone that is put in is one less to be put in
use Rattle.std.proofs.Common.{[], List, sym, ◌∙◌, subst}
use Rattle.std.specs.Vec.Iter.{into_iter_items}
use Rattle.lv_boxes.specs.Members.{ZoneValue}
use Rattle.lv_guide.specs.Guide.{HasRoomBy, HasMoreBy}
use Rattle.lv_guide.proofs.GuideLemmas.{room_for_first, room_for_rest, one_more, no_more}
use Rattle.lv_guide.proofs.guide.put_all.Goals as goal

pub loop-zone-init : goal.loop-zone-init
loop-zone-init c =
    record {
      can = tt;
      ends = tt;
      room = subst (λ zs. HasRoomBy c.args.grid.now zs c.args.queue.now.entries) (sym c.into_iter-zone-iterator.ensures.into_iter_gives.0) c.requires;
      rest = λ known new has. subst (λ (zs : List ZoneValue). HasMoreBy c.args.grid.now known zs c.args.queue.now.entries new) c.into_iter-zone-iterator.ensures.into_iter_gives.0 has;
    }

pub put-requires : goal.put-requires
put-requires c =
    room_for_first c.args.grid.now c.in-Some.zone (into_iter_items c.next.new.self) (into_iter_items c.loop-zone.zone-iterator) c.loop-zone.queue.entries c.in-Some.ensures.steps.0 c.loop-zone.invariant.room

pub loop-zone-preserved : goal.loop-zone-preserved
loop-zone-preserved c =
    record {
      can = tt;
      ends = tt;
      room =
          room_for_rest c.args.grid.now [] c.in-Some.zone (into_iter_items c.next.new.self) (into_iter_items c.loop-zone.zone-iterator) c.loop-zone.queue.entries c.put.new.queue.entries c.in-Some.ensures.steps.0
          c.loop-zone.invariant.room (c.in_ok-put.ensures []);
      rest =
          λ known. one_more c.args.grid.now known c.in-Some.zone (into_iter_items c.next.new.self) (into_iter_items c.loop-zone.zone-iterator) c.loop-zone.queue.entries c.put.new.queue.entries c.in-Some.ensures.steps.0
          (c.in_ok-put.ensures known) c.args.zones.items c.args.queue.now.entries (c.loop-zone.invariant.rest known);
    }

pub returns : goal.returns
returns c known =
    c.loop-zone.invariant.rest known c.loop-zone.queue.entries
    (no_more c.args.grid.now known (into_iter_items c.loop-zone.zone-iterator) c.loop-zone.queue.entries (sym c.loop-zone.zone-iterator.rest.ok.0 ∙ c.in-None.ensures.steps.0) c.loop-zone.invariant.room.queue)
