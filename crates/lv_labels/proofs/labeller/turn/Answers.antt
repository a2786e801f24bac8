-- the same claim stays, and another one comes behind the one that goes
use Rattle.lv_labels.proofs.labeller.turn.Goals as goal

pub returns-clause-claiming : goal.returns-clause-claiming
returns-clause-claiming c = λ plant literals few is. c.claim.ensures.claiming plant literals few (c.release.ensures.claiming plant literals is)
