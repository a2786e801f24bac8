-- a slot for each round
use Rattle.std.proofs.Common.{◌≡◌, length}
use Rattle.benches.proofs.boxes.setting.grid.Given as goal

abbrev pub invariant-loop-slot : goal.invariant-loop-slot
invariant-loop-slot l = length l.grid ≡ l._slot
