-- the sum so far and what is left are the sum
use Rattle.std.proofs.Common.{◌≡◌, ◌+◌, drop, sum_by}
use Rattle.lv_model.specs.Lists.{part_moves}
use Rattle.lv_compile.proofs.windows.moves_of_parts.Given as goal

abbrev pub invariant-loop-part : goal.invariant-loop-part
invariant-loop-part l = l.total + sum_by (part_moves l.types) (drop l.part-index l.parts) ≡ sum_by (part_moves l.types) l.parts
