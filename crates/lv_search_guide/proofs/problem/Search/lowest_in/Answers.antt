-- one slot after the other keeps the choice of the first
use Rattle.std.proofs.Common.{◌+◌, ◌<◌, ◌≤◌, subst}
use Rattle.lv_search_guide.proofs.DearLemmas.{keeps_all}
use Rattle.lv_search_guide.proofs.LowestLemmas.{slot_in_choices, narrowed_begins, narrowed_more, narrowed_ends}
use Rattle.lv_search_guide.proofs.problem.Search.lowest_in.Goals as goal

pub loop-slot-init : goal.loop-slot-init
loop-slot-init c =
    narrowed_begins c.args.self.now.grid.now c.args.self.now.conflicts.now c.args.masks c.args.masks c.args.member
    (keeps_all c.args.self.now.grid.now c.args.self.now.conflicts.now (c.args.member.cost + 1) c.args.masks) c.requires.cheapest

pub choice_at-requires : goal.choice_at-requires
choice_at-requires c =
    slot_in_choices c.args.self.now.grid.now c.args.self.now.conflicts.now c.loop-slot.part c.in_ok-first.first c.loop-slot.slot c.in_ok-first.ensures.free
    (subst (λ n. c.loop-slot.slot < n) c.len-slot-end.ensures.len c.loop-slot-test.true)

pub loop-slot-preserved : goal.loop-slot-preserved
loop-slot-preserved c =
    narrowed_more c.args.self.now.grid.now c.args.self.now.conflicts.now c.args.masks c.args.member.cost c.loop-slot.slot c.loop-slot.part c.loop-slot.choices c.in_ok-first.first c.fix.new.self
    (subst (λ n. c.loop-slot.slot < n) c.len-slot-end.ensures.len c.loop-slot-test.true) c.loop-slot.invariant c.in_ok-first.ensures (rw c.choice_at.ensures at c.fix.ensures)

pub returns-clause-lowest : goal.returns-clause-lowest
returns-clause-lowest c =
    narrowed_ends c.args.self.now.grid.now c.args.self.now.conflicts.now c.args.masks c.args.member.cost c.loop-slot.slot c.loop-slot.part c.loop-slot.choices
    (subst (λ n. n ≤ c.loop-slot.slot) c.len-slot-end.ensures.len c.loop-slot-test.false) c.loop-slot.invariant c.requires.cheapest.least
