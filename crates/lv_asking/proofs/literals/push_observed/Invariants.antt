-- what was added and what the observations left say is what all say
use Rattle.std.proofs.Common.{◌≡◌, ◌++◌, drop}
use Rattle.lv_asking.specs.Literals.{observed_literals}
use Rattle.lv_asking.proofs.literals.push_observed.Given as goal

abbrev pub invariant-loop-o : goal.invariant-loop-o
invariant-loop-o l = l.out.items ++ observed_literals l.bools (drop l.o-index l.observations) ≡ l.initial.out.items ++ observed_literals l.bools l.observations
