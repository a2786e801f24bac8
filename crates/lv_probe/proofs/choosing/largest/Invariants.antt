-- what is the largest so far and the numbers that are left come to the largest of all
use Rattle.std.proofs.Common.{◌≡◌, drop}
use Rattle.lv_probe.specs.Probing.{largest_of}
use Rattle.lv_probe.proofs.choosing.largest.Given as goal

abbrev pub invariant-loop-n : goal.invariant-loop-n
invariant-loop-n l = largest_of l.most (drop l.n-index l.numbers) ≡ largest_of 0 l.numbers
