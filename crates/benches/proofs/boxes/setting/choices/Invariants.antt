-- a choice for each round
use Rattle.std.proofs.Common.{◌≡◌, vec_len}
use Rattle.benches.proofs.boxes.setting.choices.Given as goal

abbrev pub invariant-loop-slot : goal.invariant-loop-slot
invariant-loop-slot l = vec_len l.choices ≡ l._slot
