-- the parts have the members without known conflicts
use Rattle.std.proofs.Common.{List, sym, subst, ◌∙◌}
use Rattle.std.specs.Prelude.{find}
use Rattle.lv_base.specs.Choices.{contains_all}
use Rattle.lv_boxes.specs.Members.{ZoneValue}
use Rattle.lv_guide.specs.Guide.{HasRoomBy, HasMoreBy}
use Rattle.lv_guide.proofs.SplitLemmas.{room_for_split, split_same, none_found}
use Rattle.lv_guide.proofs.guide.split_front.Goals as goal

pub put_all-requires : goal.put_all-requires
put_all-requires c =
    subst (λ (zones : List ZoneValue). HasRoomBy c.args.grid.now zones c.pop_first.new.self.entries) (sym c.in_ok-split-in-Some-first_contained.ensures.parts)
    (room_for_split c.args.grid.now c.args.known.now c.args.queue.now.entries c.in-Some.rank c.in-Some.zone c.pop_first.new.self.entries c.in-Some.ensures.removal c.requires.kept c.in-Some-first_contained.conflict.now
    (sym (λ i. find (contains_all (c.as_slice-in-Some.ensures i)) (c.as_slice.ensures i)) ∙ sym (rw c.in-Some-first_contained.is at c.first_contained.ensures)))

pub returns-in-Some-first_contained : goal.returns-in-Some-first_contained
returns-in-Some-first_contained c =
    split_same c.args.grid.now c.args.known.now c.args.queue.now.entries c.in-Some.rank c.in-Some.zone c.pop_first.new.self.entries c.in-Some.ensures.removal c.requires.kept c.in-Some-first_contained.conflict.now
    (sym (λ i. find (contains_all (c.as_slice-in-Some.ensures i)) (c.as_slice.ensures i)) ∙ sym (rw c.in-Some-first_contained.is at c.first_contained.ensures))
    c.put_all.new.queue.entries
    (subst (λ (zones : List ZoneValue). HasMoreBy c.args.grid.now c.args.known.now zones c.pop_first.new.self.entries c.put_all.new.queue.entries) c.in_ok-split-in-Some-first_contained.ensures.parts
    (c.in_ok-put_all-in-Some-first_contained.ensures c.args.known.now))

pub returns-in-Some : goal.returns-in-Some
returns-in-Some c =
    absurd (none_found c.args.grid.now c.args.known.now c.args.queue.now.entries c.in-Some.rank c.in-Some.zone c.pop_first.new.self.entries c.in-Some.ensures.removal c.requires.kept
    (sym (λ i. find (contains_all (c.as_slice-in-Some.ensures i)) (c.as_slice.ensures i)) ∙ sym (rw c.in-None-first_contained.is at c.first_contained.ensures)) c.requires.stale)
