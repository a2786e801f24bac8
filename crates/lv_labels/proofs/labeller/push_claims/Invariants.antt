-- what was added, with what is left, is all
use Rattle.std.proofs.Common.{◌≡◌, ◌++◌, map, drop}
use Rattle.lv_labels.specs.Holding.{claim_at}
use Rattle.lv_labels.proofs.labeller.push_claims.Given as goal

abbrev pub invariant-loop-o : goal.invariant-loop-o
invariant-loop-o l = l.out.items ++ map (claim_at l.moment) (drop l.o-index l.observations) ≡ l.initial.out.items ++ map (claim_at l.moment) l.observations
