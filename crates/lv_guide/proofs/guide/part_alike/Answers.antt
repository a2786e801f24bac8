-- the parts by the first one's target have the others
use Rattle.std.proofs.Common.{List, sym, subst}
use Rattle.lv_boxes.specs.Members.{ZoneValue}
use Rattle.lv_guide.specs.Guide.{AreNear, HasRoomBy, HasMoreBy}
use Rattle.lv_guide.proofs.AlikeLemmas.{room_for_alike, drops_alike}
use Rattle.lv_guide.proofs.SplitLemmas.{first_free, alike_parts_near}
use Rattle.lv_guide.proofs.guide.part_alike.Goals as goal

pub put_parts-requires-clause-room : goal.put_parts-requires-clause-room
put_parts-requires-clause-room c =
    subst (λ (zones : List ZoneValue). HasRoomBy c.args.grid.now zones c.pop_first.new.self.entries) (sym c.in_ok-parts-in-Some.ensures.parts)
    (room_for_alike c.args.grid.now c.args.groups.now c.requires.shape c.args.queue.now.entries (c.in-Some.rank, c.in-Some.zone) c.pop_first.new.self.entries c.in-Some.ensures.removal c.requires.ready.kept.queue c.as_slice.result.now
    c.as_slice.ensures)

pub put_parts-requires-clause-near : goal.put_parts-requires-clause-near
put_parts-requires-clause-near c =
    subst (λ (zones : List ZoneValue). AreNear c.args.grid.now c.args.known.now c.in-Some.rank zones) (sym c.in_ok-parts-in-Some.ensures.parts)
    (alike_parts_near c.args.grid.now c.args.known.now c.args.queue.now.entries c.in-Some.rank c.in-Some.zone c.pop_first.new.self.entries c.in-Some.ensures.removal c.requires.ready c.args.groups.now c.as_slice.result.now
    c.requires.shape c.as_slice.ensures)

pub put_parts-requires-clause-free : goal.put_parts-requires-clause-free
put_parts-requires-clause-free c =
    first_free c.args.grid.now c.args.known.now c.args.queue.now.entries c.in-Some.rank c.in-Some.zone c.pop_first.new.self.entries c.in-Some.ensures.removal c.requires.ready

pub returns-in_ok-put_parts-in-Some : goal.returns-in_ok-put_parts-in-Some
returns-in_ok-put_parts-in-Some c =
    drops_alike c.args.grid.now c.args.groups.now c.requires.shape c.args.queue.now.entries (c.in-Some.rank, c.in-Some.zone) c.pop_first.new.self.entries c.in-Some.ensures.removal c.requires.ready.kept.queue c.as_slice.result.now
    c.as_slice.ensures c.args.known.now c.put_parts.new.queue.entries c.in-Some.ensures.all_above
    (subst (λ (zones : List ZoneValue). HasMoreBy c.args.grid.now c.args.known.now zones c.pop_first.new.self.entries c.put_parts.new.queue.entries) c.in_ok-parts-in-Some.ensures.parts c.in_ok-put_parts-in-Some.ensures)
    c.requires.ready
