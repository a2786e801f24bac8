-- a list of another length is not below
use Rattle.std.proofs.Common.{sym}
use Rattle.lv_certcheck.proofs.CheckLemmas.{unequal_below}
use Rattle.lv_certcheck.proofs.judge.are_below.Goals as goal

pub returns-then-values-counts : goal.returns-then-values-counts
returns-then-values-counts c = sym (unequal_below c.args.values.now c.args.counts.now c.if-values-counts.true)
