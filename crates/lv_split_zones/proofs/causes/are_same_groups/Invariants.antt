-- where what is left is the same, all is
use Rattle.std.proofs.Common.{◌≡◌, drop}
use Rattle.lv_split_zones.proofs.causes.are_same_groups.Given as goal

abbrev pub invariant-loop-slot : goal.invariant-loop-slot
invariant-loop-slot l = drop l.slot l.one ≡ drop l.slot l.other → l.one ≡ l.other
