-- where what is left is the same, all is
use Rattle.std.proofs.Common.{◌≡◌, drop}
use Rattle.lv_split_zones.proofs.causes.are_same.Given as goal

abbrev pub invariant-loop-place : goal.invariant-loop-place
invariant-loop-place l = drop l.place l.one ≡ drop l.place l.other → l.one ≡ l.other
