-- each step follows
use Rattle.std.proofs.lemmas.Bool.{not-false}
use Rattle.lv_asking.proofs.LemmaLemmas.{step_follows, none_added, added_then}
use Rattle.lv_asking.proofs.lemma_solver.keep_lemmas.Goals as goal

pub loop-place-init : goal.loop-place-init
loop-place-init c = none_added c.args.front.bound c.args.front.is_filled c.args.solver.now.set

pub keep_lemma-requires-clause-follows : goal.keep_lemma-requires-clause-follows
keep_lemma-requires-clause-follows c = step_follows c.args.solver.now.set c.loop-place.solver.set c.args.log.now c.loop-place.place c.step.result.now c.as_slice.result.now c.requires.valid c.step.ensures c.as_slice.ensures c.loop-place.invariant.models

pub keep_lemma-requires-clause-filled : goal.keep_lemma-requires-clause-filled
keep_lemma-requires-clause-filled c = let filled = not-false c.args.front.is_filled c.if-not-front.false in c.loop-place.invariant.filled filled (c.requires.filled filled)

pub loop-place-preserved : goal.loop-place-preserved
loop-place-preserved c = added_then c.args.front.bound c.args.front.is_filled c.args.solver.now.set c.loop-place.solver.set c.keep_lemma.new.solver.set c.loop-place.invariant c.keep_lemma.ensures
