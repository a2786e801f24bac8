use Rattle.std.proofs.Common.{◌≡◌, ◌++◌, drop}
use Rattle.lv_tracker.proofs.copies.copies_of.Given as goal

-- what was copied, with the states that are left, is all
abbrev pub invariant-loop-state : goal.invariant-loop-state
invariant-loop-state l = l.out.items ++ drop l.state-index l.tracked ≡ l.tracked
