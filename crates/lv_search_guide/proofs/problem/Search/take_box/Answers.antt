-- by what the look tells
use Rattle.std.proofs.Common.{refl}
use Rattle.lv_search_guide.proofs.SearchLemmas.{takes-dear, takes-nothing, takes-found, first_is_found}
use Rattle.lv_search_guide.proofs.problem.Search.take_box.Goals as goal

pub returns-then-best-next : goal.returns-then-best-next
returns-then-best-next c = takes-dear c.args.self.now.grid.now c.args.self.now.conflicts.now c.args.next.now c.args.best.now c.args.boxes.now.items c.if-best-next.true

pub returns-in-Nothing : goal.returns-in-Nothing
returns-in-Nothing c = takes-nothing c.args.self.now.grid.now c.args.self.now.conflicts.now c.args.next.now c.args.best.now c.args.boxes.now.items (rw (c.in-Nothing.is, c.as_slice.ensures) at c.in_ok-look.ensures)

pub returns-in-Found : goal.returns-in-Found
returns-in-Found c =
    takes-found c.args.self.now.grid.now c.args.self.now.conflicts.now c.args.next.now c.args.best.now c.args.boxes.now.items _ c.in-Found.member
    (first_is_found c.args.self.now.grid.now c.args.self.now.conflicts.now c.args.next.now.masks c.args.best.now.under c.in-Found.member (rw (c.in-Found.is, c.as_slice.ensures) at c.in_ok-look.ensures)) refl
