-- the pairs left and those to come say what all say
use Rattle.std.proofs.Common.{drop, ◌++◌}
use Rattle.lv_search_parts.specs.Parts.{IsOpenOf}
use Rattle.lv_search_parts.proofs.live.write_open.Given as goal

abbrev pub invariant-loop-pair : goal.invariant-loop-pair
invariant-loop-pair l = IsOpenOf l.masks l.pairs (l.left.items ++ drop l.pair-index l.pairs)
