-- the first claims are made
use Rattle.lv_labels.proofs.HoldingLemmas.{AreClaimed}
use Rattle.lv_labels.proofs.labeller.claim_all.Given as goal

abbrev pub invariant-loop-claim : goal.invariant-loop-claim
invariant-loop-claim l = AreClaimed l.claim-index l.claims l.initial.labels l.labels
