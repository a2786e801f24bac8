-- the boolean is unmarked where that was the last claim, and stays as it was otherwise
use Rattle.std.proofs.Common.{arith, inl, inr}
use Rattle.std.proofs.lemmas.Bool.{cases_eq}
use Rattle.lv_labels.specs.Claims.{count_at}
use Rattle.lv_labels.proofs.ClaimLemmas.{last_claim, more_claims, no_claim, count_is}
use Rattle.lv_labels.proofs.claims.drop_claim.Goals as goal

pub returns-then-count-eq1-clause-assumed : goal.returns-then-count-eq1-clause-assumed
returns-then-count-eq1-clause-assumed c =
    last_claim c.args.counts.now.items c.args.ltms.now c.retract.new.self c.args.lit c.requires.assumed c.retract.ensures.bools c.retract.ensures.changed

pub returns-clause-assumed : goal.returns-clause-assumed
returns-clause-assumed c =
    let is = count_is c.args.counts.now.items c.args.lit.var.0 c.index-count.result.now c.requires.claim.within (omega arith) in
    elim (cases_eq (count_at c.args.counts.now.items c.args.lit.var.0) 0) [
      | inl none ↦ no_claim c.args.counts.now.items c.args.ltms.now c.args.lit.var.0 c.saturating_sub.result c.requires.assumed none (omega (arith, is, none, c.saturating_sub.ensures))
      | inr some ↦ more_claims c.args.counts.now.items c.args.ltms.now c.args.lit.var.0 c.saturating_sub.result c.requires.assumed (omega (arith, some)) (omega (arith, is, some, c.if-count-eq1.false, c.saturating_sub.ensures))
    ]
