-- what was added and the conflicts of the moves left are those of all
use Rattle.std.proofs.Common.{◌≡◌, ◌++◌, drop}
use Rattle.lv_window.specs.Joints.{joints_of}
use Rattle.lv_window.proofs.joints.push_joints.Given as goal

abbrev pub invariant-loop-number : goal.invariant-loop-number
invariant-loop-number l =
    l.out.items ++ joints_of l.slots.slot l.slots.behind l.number (drop l.number l.moves) l.moves ≡ l.initial.out.items ++ joints_of l.slots.slot l.slots.behind 0 l.moves l.moves
