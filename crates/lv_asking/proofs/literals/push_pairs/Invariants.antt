-- what was added and what the pairs left say is what all say
use Rattle.std.proofs.Common.{◌≡◌, ◌++◌, drop}
use Rattle.lv_asking.specs.Literals.{pair_literals}
use Rattle.lv_asking.proofs.literals.push_pairs.Given as goal

abbrev pub invariant-loop-pair : goal.invariant-loop-pair
invariant-loop-pair l = l.out.items ++ pair_literals l.choices (drop l.pair-index l.pairs) ≡ l.initial.out.items ++ pair_literals l.choices l.pairs
