-- what is copied, with what is left, is all
use Rattle.std.proofs.Common.{◌≡◌, ◌++◌, drop}
use Rattle.lv_split_zones.proofs.causes.copied.Given as goal

abbrev pub invariant-loop-numbers : goal.invariant-loop-numbers
invariant-loop-numbers l = l.copy ++ drop l.numbers-index l.slots ≡ l.slots
