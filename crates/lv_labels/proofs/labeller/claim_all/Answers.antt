-- claim by claim
use Rattle.std.proofs.Common.{◌≡◌, ◌++◌, take, subst, arith}
use Rattle.std.proofs.lemmas.List.{take_more, take_all}
use Rattle.lv_reply.specs.declared.labels.Label.{Label}
use Rattle.std.specs.Prelude.{List}
use Rattle.lv_labels.specs.Claims.{IsClaiming}
use Rattle.lv_labels.specs.Holding.{claim_literals}
use Rattle.lv_labels.proofs.HoldingLemmas.{claimed_one}
use Rattle.lv_labels.proofs.labeller.claim_all.Goals as goal

pub loop-claim-preserved : goal.loop-claim-preserved
loop-claim-preserved c =
    claimed_one c.loop-claim.claim-index c.args.claims.now _ c.args.labels.now c.loop-claim.labels c.claim.new.self c.loop-claim-test.true
    (take_more c.args.claims.now c.loop-claim.claim-index _ c.loop-claim-test.true) c.claim.ensures.values c.claim.ensures.modes c.claim.ensures.claiming c.loop-claim.invariant

pub returns-clause-claiming : goal.returns-clause-claiming
returns-clause-claiming c =
    λ plant literals few is.
    let all : take c.loop-claim.claim-index c.args.claims.now ≡ c.args.claims.now = take_all c.loop-claim.claim-index c.args.claims.now (omega arith) in
    subst (λ (xs : List Label). IsClaiming plant (claim_literals plant xs ++ literals) c.loop-claim.labels) all (c.loop-claim.invariant.claiming plant literals few is)
