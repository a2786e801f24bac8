-- the first claims are taken back
use Rattle.lv_labels.proofs.HoldingLemmas.{AreReleased}
use Rattle.lv_labels.proofs.labeller.release_all.Given as goal

abbrev pub invariant-loop-claim : goal.invariant-loop-claim
invariant-loop-claim l = AreReleased l.claim-index l.claims l.initial.labels l.labels
