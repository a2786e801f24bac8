-- the first member of the part is put in its place
use Rattle.std.proofs.Common.{◌∙◌}
use Rattle.lv_search_guide.proofs.PartLemmas.{settles_fixed, part_none}
use Rattle.lv_search_guide.proofs.problem.Problem.settled_part.Goals as goal

pub returns-in_ok-words-in-Some : goal.returns-in_ok-words-in-Some
returns-in_ok-words-in-Some c =
    settles_fixed c.args.self.now.grid.now c.args.self.now.conflicts.now c.args.masks.now c.args.marks.now c.in-Some.member c.as_slice.result.now c.as_slice-in-Some.result.now c.from_vec.result c.requires.part
    (rw c.in-Some.is at c.in_ok-member.ensures) c.as_slice.ensures c.as_slice-in-Some.ensures (c.from_vec.ensures ∙ c.in_ok-words-in-Some.ensures)

pub returns-in-None : goal.returns-in-None
returns-in-None c = part_none c.args.self.now.grid.now c.args.self.now.conflicts.now c.args.masks.now c.args.marks.now c.requires.part (rw c.in-None.is at c.in_ok-member.ensures)
