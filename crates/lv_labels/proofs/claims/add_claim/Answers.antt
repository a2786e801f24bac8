-- the boolean is marked where it was not claimed, and stays so where it was
use Rattle.std.proofs.Common.{arith}
use Rattle.lv_labels.proofs.ClaimLemmas.{first_claim, more_claims, count_is}
use Rattle.lv_labels.proofs.claims.add_claim.Goals as goal

pub returns-then-count-eq0-clause-assumed : goal.returns-then-count-eq0-clause-assumed
returns-then-count-eq0-clause-assumed c =
    first_claim c.args.counts.now.items c.args.ltms.now c.assume.new.self c.args.lit c.requires.claim.positive c.requires.assumed c.assume.ensures.bools c.assume.ensures.changed

pub returns-clause-assumed : goal.returns-clause-assumed
returns-clause-assumed c =
    let is = count_is c.args.counts.now.items c.args.lit.var.0 c.index-count.result.now c.requires.claim.within (omega arith) in
    more_claims c.args.counts.now.items c.args.ltms.now c.args.lit.var.0 c.saturating_add.result c.requires.assumed (omega (arith, is, c.if-count-eq0.false)) (omega (arith, c.if-count-eq0.false, c.saturating_add.ensures))
