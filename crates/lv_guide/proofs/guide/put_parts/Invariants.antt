-- the zones that are in, and those still to be put in, are all
use Rattle.std.proofs.Common.{List}
use Rattle.std.specs.Vec.Iter.{into_iter_items}
use Rattle.lv_base.specs.declared.rank.Rank.{Rank}
use Rattle.lv_boxes.specs.Members.{ZoneValue}
use Rattle.lv_guide.specs.Guide.{AreNear, HasRoomBy, HasMoreBy}
use Rattle.lv_guide.proofs.guide.put_parts.Given as goal

abbrev pub invariant-loop-part : goal.invariant-loop-part
invariant-loop-part l =
    record {
      can : (goal.iterator-loop-part).can_next l.part-iterator;
      ends : (goal.iterator-loop-part).is_finite l.part-iterator;
      room : HasRoomBy l.grid (into_iter_items l.part-iterator) l.queue.entries;
      near : AreNear l.grid l.known l.listed (into_iter_items l.part-iterator);
      rest : (new : List (Rank × ZoneValue)) → HasMoreBy l.grid l.known (into_iter_items l.part-iterator) l.queue.entries new → HasMoreBy l.grid l.known l.fn.parts.items l.fn.queue.entries new;
    }
