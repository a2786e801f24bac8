-- what is told of the box that is left is told of the whole
use Rattle.lv_search_guide.proofs.PartLemmas.{keeps_none, keeps_dear, keeps_found}
use Rattle.lv_search_guide.proofs.problem.Problem.first_by_parts.Goals as goal

pub returns-in-Nothing-clause-first : goal.returns-in-Nothing-clause-first
returns-in-Nothing-clause-first c =
    keeps_dear c.args.self.now.grid.now c.args.self.now.conflicts.now c.args.masks c.loop-part.masks c.slots-slots.ensures.few c.slots-slots.ensures.each c.loop-part.invariant (rw c.in-Nothing.is at c.in_ok-look.ensures)

pub returns-in-Found-clause-first : goal.returns-in-Found-clause-first
returns-in-Found-clause-first c =
    keeps_found c.args.self.now.grid.now c.args.self.now.conflicts.now c.args.masks c.loop-part.masks _ c.in-Found.member c.loop-part.invariant (rw c.in-Found.is at c.in_ok-look.ensures)

pub returns-in-None-clause-first : goal.returns-in-None-clause-first
returns-in-None-clause-first c =
    keeps_none c.args.self.now.grid.now c.args.self.now.conflicts.now c.args.masks c.loop-part.masks c.loop-part.invariant (rw c.in-None.is at c.in_ok-less-in-Splits.ensures)
