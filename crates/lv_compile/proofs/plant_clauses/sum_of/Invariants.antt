-- the sum so far and what is left are the sum
use Rattle.std.proofs.Common.{◌≡◌, ◌+◌, drop}
use Rattle.std.specs.List.{sum}
use Rattle.lv_compile.proofs.plant_clauses.sum_of.Given as goal

abbrev pub invariant-loop-size : goal.invariant-loop-size
invariant-loop-size l = l.total + sum (drop l.size-index l.sizes) ≡ sum l.sizes
