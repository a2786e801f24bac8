-- what was made and the pairs of what is left are all pairs
use Rattle.std.proofs.Common.{◌≡◌, ◌++◌, drop}
use Rattle.lv_base.specs.Choices.{pairs_from}
use Rattle.lv_base.proofs.search.pairs_of.Given as goal

abbrev pub invariant-loop-slot : goal.invariant-loop-slot
invariant-loop-slot l = l.out.items ++ pairs_from l.slot (drop l.slot l.choices) ≡ pairs_from 0 l.choices
