-- they are alike so far
use Rattle.std.proofs.Common.{◌≡◌, length, take}
use Rattle.lv_guide.proofs.remembered.are_same_slots.Given as goal

abbrev pub invariant-loop-slot : goal.invariant-loop-slot
invariant-loop-slot l =
    record {
      long : length l.one ≡ length l.other;
      same : take l.slot l.one ≡ take l.slot l.other;
    }
