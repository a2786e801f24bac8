-- what is added keeps no number
use Rattle.std.proofs.Common.{◌≡◌, ◌+◌, ◌-◌, ℕ, length, slice_index}
use Rattle.lv_cert_writing.proofs.block_numbers.keep.Given as goal

abbrev pub invariant-loop-numbers : goal.invariant-loop-numbers
invariant-loop-numbers l = (k : ℕ) → slice_index l.numbers.items k ≡ slice_index l.fn.numbers.items k

abbrev pub decreases-loop-numbers : goal.decreases-loop-numbers
decreases-loop-numbers l = l.place + 1 - length l.numbers.items
