-- the parts by all choices of the first have the others
use Rattle.std.proofs.Common.{List, ◌∙◌, ap, sym, subst}
use Rattle.lv_boxes.specs.Members.{ZoneValue}
use Rattle.lv_boxes.specs.Parts.{parts_of}
use Rattle.lv_guide.specs.Guide.{AreNear, HasRoomBy, HasMoreBy}
use Rattle.lv_guide.proofs.GuideLemmas.{first_each_slot, room_for_own_parts, drops_first}
use Rattle.lv_guide.proofs.SplitLemmas.{first_free, own_parts_near}
use Rattle.lv_guide.proofs.guide.part_first.Goals as goal

pub own_choices-requires : goal.own_choices-requires
own_choices-requires c = first_each_slot c.args.grid.now c.args.queue.now.entries (c.in-Some.rank, c.in-Some.zone) c.pop_first.new.self.entries c.in-Some.ensures.removal c.requires.kept.queue

pub put_parts-requires-clause-room : goal.put_parts-requires-clause-room
put_parts-requires-clause-room c =
    subst (λ (zones : List ZoneValue). HasRoomBy c.args.grid.now zones c.pop_first.new.self.entries) (sym (c.in_ok-parts-in-Some.ensures.parts ∙ ap (parts_of c.in-Some.zone) c.in_ok-own-in-Some.ensures))
    (room_for_own_parts c.args.grid.now c.args.queue.now.entries (c.in-Some.rank, c.in-Some.zone) c.pop_first.new.self.entries c.in-Some.ensures.removal c.requires.kept.queue)

pub put_parts-requires-clause-near : goal.put_parts-requires-clause-near
put_parts-requires-clause-near c =
    subst (λ (zones : List ZoneValue). AreNear c.args.grid.now c.args.known.now c.in-Some.rank zones) (sym (c.in_ok-parts-in-Some.ensures.parts ∙ ap (parts_of c.in-Some.zone) c.in_ok-own-in-Some.ensures))
    (own_parts_near c.args.grid.now c.args.known.now c.args.queue.now.entries c.in-Some.rank c.in-Some.zone c.pop_first.new.self.entries c.in-Some.ensures.removal c.requires)

pub put_parts-requires-clause-free : goal.put_parts-requires-clause-free
put_parts-requires-clause-free c = first_free c.args.grid.now c.args.known.now c.args.queue.now.entries c.in-Some.rank c.in-Some.zone c.pop_first.new.self.entries c.in-Some.ensures.removal c.requires

pub returns-in_ok-put_parts-in-Some : goal.returns-in_ok-put_parts-in-Some
returns-in_ok-put_parts-in-Some c =
    drops_first c.args.grid.now c.args.known.now c.args.queue.now.entries (c.in-Some.rank, c.in-Some.zone) c.pop_first.new.self.entries c.put_parts.new.queue.entries c.in-Some.ensures.removal c.in-Some.ensures.all_above
    (subst (λ (zones : List ZoneValue). HasMoreBy c.args.grid.now c.args.known.now zones c.pop_first.new.self.entries c.put_parts.new.queue.entries)
    (c.in_ok-parts-in-Some.ensures.parts ∙ ap (parts_of c.in-Some.zone) c.in_ok-own-in-Some.ensures) c.in_ok-put_parts-in-Some.ensures)
    c.requires
