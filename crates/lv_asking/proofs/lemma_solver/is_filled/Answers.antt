-- number by number
use Rattle.std.proofs.Common.{sym, arith, ◌∙◌}
use Rattle.lv_asking.proofs.LemmaLemmas.{one_filled}
use Rattle.lv_asking.proofs.lemma_solver.is_filled.Goals as goal

pub loop-at-preserved : goal.loop-at-preserved
loop-at-preserved c = one_filled c.args.set.now c.loop-at.at c.loop-at.invariant (sym c.contains.ensures ∙ c.if-not-contains.false)

pub returns : goal.returns
returns c told id less = let end = c.loop-at-test.false in c.loop-at.invariant id (omega (arith, less, end))
