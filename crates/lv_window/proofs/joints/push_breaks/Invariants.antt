-- what was added and the conflicts with the moves left are those with all
use Rattle.std.proofs.Common.{◌≡◌, ◌++◌, drop}
use Rattle.lv_window.specs.Joints.{breaks_of}
use Rattle.lv_window.proofs.joints.push_breaks.Given as goal

abbrev pub invariant-loop-number : goal.invariant-loop-number
invariant-loop-number l =
    l.out.items ++ breaks_of l.slots.slot l.slots.behind l.first.number l.first.of.now l.number (drop l.number l.moves)
    ≡ l.initial.out.items ++ breaks_of l.slots.slot l.slots.behind l.first.number l.first.of.now 0 l.moves
