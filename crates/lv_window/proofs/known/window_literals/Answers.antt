-- step by step
use Rattle.std.proofs.Common.{◌++◌, List, length, ap, ◌∙◌, arith}
use Rattle.lv_base.specs.declared.ids.Lit.{Lit}
use Rattle.lv_compile.specs.Windows.{past_copies}
use Rattle.lv_meaning.specs.declared.facts.Facts.{Facts}
use Rattle.lv_window.specs.Known.{step_literals}
use Rattle.lv_window.proofs.KnownLemmas.{copies_of_window, known_next, known_done}
use Rattle.lv_window.proofs.known.window_literals.Goals as goal

pub push_step-requires-clause-copies : goal.push_step-requires-clause-copies
push_step-requires-clause-copies c = (copies_of_window c.args.model.now c.args.system.now.copies (length c.args.steps.now) c.requires.system.copies).0

pub push_step-requires-clause-there : goal.push_step-requires-clause-there
push_step-requires-clause-there c =
    let many = (copies_of_window c.args.model.now c.args.system.now.copies (length c.args.steps.now) c.requires.system.copies).1 in
    let inside = c.loop-number-test.true in
    omega (arith, many, inside)

pub loop-number-preserved : goal.loop-number-preserved
loop-number-preserved c =
    let before : List Lit = c.loop-number.out.items in
    known_next c.args.model.now c.args.steps.now c.loop-number.number c.index-steps-number.result before c.push_step.new.out.items _ c.loop-number-test.true c.loop-number.invariant
    (c.in_ok-push_step.ensures ∙ ap (λ (f : Facts). before ++ step_literals c.args.model.now (past_copies c.args.model.now 0 c.loop-number.number) f) c.index-steps-number.is)

pub returns : goal.returns
returns c = known_done c.args.model.now c.args.steps.now c.loop-number.number c.loop-number.out.items _ c.loop-number-test.false c.loop-number.invariant
