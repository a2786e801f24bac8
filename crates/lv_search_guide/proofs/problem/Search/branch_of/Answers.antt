-- no member that is cheap enough goes
use Rattle.lv_search_guide.proofs.SearchLemmas.{none_by_low, branch_none, branch_some, branch_dear}
use Rattle.lv_search_guide.proofs.problem.Search.branch_of.Goals as goal

pub returns-then-not-may_be_left : goal.returns-then-not-may_be_left
returns-then-not-may_be_left c = none_by_low c.args.self.now.grid.now c.args.self.now.conflicts.now c.args.masks c.args.under (rw c.if-not-may_be_left.true at c.in_ok-may_be_left.ensures)

pub returns-then-low-under : goal.returns-then-low-under
returns-then-low-under c =
    branch_dear c.args.self.now.grid.now c.args.self.now.conflicts.now c.args.masks c.narrow_where.new.masks c.in_ok-low.low c.args.under (rw c.if-not-may_be_left.false at c.in_ok-may_be_left.ensures) c.in_ok-low.ensures.low c.if-low-under.true

pub returns-then-not-are_left : goal.returns-then-not-are_left
returns-then-not-are_left c =
    branch_none c.args.self.now.grid.now c.args.self.now.conflicts.now c.args.masks c.narrow_where.new.masks c.drop_dear.new.masks c.args.under (rw c.if-not-may_be_left.false at c.in_ok-may_be_left.ensures) c.in_ok-low.ensures.keeps
    (rw c.if-not-are_left.true at c.in_ok-are_left.ensures)

pub returns : goal.returns
returns c =
    branch_some c.args.self.now.grid.now c.args.self.now.conflicts.now c.args.masks c.narrow_where.new.masks c.drop_dear.new.masks c.args.under (rw c.if-not-may_be_left.false at c.in_ok-may_be_left.ensures) c.in_ok-low.ensures.keeps c.narrow_from.new.masks
    c.in_ok-low.low c.in_ok-low.ensures.low c.if-low-under.false (rw c.if-not-are_left.false at c.in_ok-are_left.ensures)
