-- each member of the box is a member of one of its parts
use Rattle.lv_search_guide.proofs.SearchLemmas.{pushes_parts}
use Rattle.lv_search_guide.proofs.problem.Search.push_parts.Goals as goal

pub returns : goal.returns
returns c =
    pushes_parts c.args.self.now.grid.now c.args.self.now.conflicts.now c.args.split.now.masks.now c.args.split.now.pair c.args.under c.in_ok-with-2.with c.in_ok-without-2.without c.requires (rw c.in_ok-with.ensures at c.in_ok-with-2.ensures) (rw c.in_ok-without.ensures at c.in_ok-without-2.ensures)
    c.args.boxes.now.items c.push_both.new.boxes.items c.in_ok-push_both.ensures
