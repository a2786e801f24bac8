-- each zone that is put in is one less to be put in
use Rattle.std.proofs.Common.{List, sym, ◌∙◌, subst}
use Rattle.std.specs.Vec.Iter.{into_iter_items}
use Rattle.lv_boxes.specs.Members.{ZoneValue}
use Rattle.lv_guide.specs.Guide.{AreNear, HasRoomBy, HasMoreBy}
use Rattle.lv_guide.proofs.GuideLemmas.{room_for_first, room_for_rest, one_more, no_more}
use Rattle.lv_guide.proofs.SplitLemmas.{near_parts}
use Rattle.lv_guide.proofs.guide.put_parts.Goals as goal

pub loop-part-init : goal.loop-part-init
loop-part-init c =
    record {
      can = tt;
      ends = tt;
      room = subst (λ zs. HasRoomBy c.args.grid.now zs c.args.queue.now.entries) (sym c.into_iter-part-iterator.ensures.into_iter_gives.0) c.requires.room;
      near = subst (λ (zs : List ZoneValue). AreNear c.args.grid.now c.args.known.now c.args.listed.now zs) (sym c.into_iter-part-iterator.ensures.into_iter_gives.0) c.requires.near;
      rest = λ new has. subst (λ (zs : List ZoneValue). HasMoreBy c.args.grid.now c.args.known.now zs c.args.queue.now.entries new) c.into_iter-part-iterator.ensures.into_iter_gives.0 has;
    }

pub put_part-requires-clause-room : goal.put_part-requires-clause-room
put_part-requires-clause-room c =
    room_for_first c.args.grid.now c.in-Some.part (into_iter_items c.next.new.self) (into_iter_items c.loop-part.part-iterator) c.loop-part.queue.entries c.in-Some.ensures.steps.0 c.loop-part.invariant.room

pub put_part-requires-clause-near : goal.put_part-requires-clause-near
put_part-requires-clause-near c =
    (near_parts c.args.grid.now c.args.known.now c.args.listed.now c.in-Some.part (into_iter_items c.next.new.self) (into_iter_items c.loop-part.part-iterator) c.in-Some.ensures.steps.0 c.loop-part.invariant.near).0

pub loop-part-preserved : goal.loop-part-preserved
loop-part-preserved c =
    record {
      can = tt;
      ends = tt;
      room =
          room_for_rest c.args.grid.now c.args.known.now c.in-Some.part (into_iter_items c.next.new.self) (into_iter_items c.loop-part.part-iterator) c.loop-part.queue.entries c.put_part.new.queue.entries
          c.in-Some.ensures.steps.0 c.loop-part.invariant.room c.in_ok-put_part.ensures;
      near =
          (near_parts c.args.grid.now c.args.known.now c.args.listed.now c.in-Some.part (into_iter_items c.next.new.self) (into_iter_items c.loop-part.part-iterator) c.in-Some.ensures.steps.0 c.loop-part.invariant.near).1;
      rest =
          one_more c.args.grid.now c.args.known.now c.in-Some.part (into_iter_items c.next.new.self) (into_iter_items c.loop-part.part-iterator) c.loop-part.queue.entries c.put_part.new.queue.entries c.in-Some.ensures.steps.0
          c.in_ok-put_part.ensures c.args.parts.items c.args.queue.now.entries c.loop-part.invariant.rest;
    }

pub returns : goal.returns
returns c =
    c.loop-part.invariant.rest c.loop-part.queue.entries
    (no_more c.args.grid.now c.args.known.now (into_iter_items c.loop-part.part-iterator) c.loop-part.queue.entries (sym c.loop-part.part-iterator.rest.ok.0 ∙ c.in-None.ensures.steps.0) c.loop-part.invariant.room.queue)
