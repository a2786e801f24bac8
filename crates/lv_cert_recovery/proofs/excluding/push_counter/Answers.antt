-- the first state from which the values can miss a goal
use Rattle.std.proofs.Common.{◌∷◌, ◌++◌, ◌∙◌, List, [], subst, ap}
use Rattle.lv_meaning.specs.declared.aim.Aim.{Aim}
use Rattle.lv_cert.specs.declared.line.Line.{Line}
use Rattle.lv_cert_recovery.specs.Showing.{step_lines}
use Rattle.lv_cert_recovery.specs.Telling.{TellsMissing}
use Rattle.lv_cert_recovery.proofs.BlockLemmas.{joined, there}
use Rattle.lv_cert_recovery.proofs.GivingLemmas.{values_have, counter_on}
use Rattle.lv_cert_recovery.proofs.excluding.push_counter.Goals as goal

pub missing_step-requires-clause-have : goal.missing_step-requires-clause-have
missing_step-requires-clause-have c = values_have c.args.asking.now.plant c.args.asking.now.aim c.args.pairs.now c.requires.given

pub returns-in-Some-clause-told : goal.returns-in-Some-clause-told
returns-in-Some-clause-told c =
    counter_on c.args.asking.now.plant c.args.asking.now.aim c.aim-aim.ensures.well_formed c.aim-aim.ensures.asked c.args.pairs.now c.requires.given c.loop-place.place c.s-item.result
    (there c.as_slice-s-items.result.now c.args.asking.now.aim.tracked (c.as_slice-s-items.ensures ∙ ap (λ (a : Aim). a.tracked) c.aim-aim.ensures.aim) c.loop-place.place c.s-item.result c.loop-place-test.true
    c.s-item.is)
    c.in-Some.step (subst (TellsMissing c.args.asking.now.plant c.args.asking.now.aim c.s-item.result.state c.args.pairs.now) c.in-Some.is c.in_ok-step.ensures.told) c.args.lines.now.items c.push_step.new.lines.items
    (joined c.args.lines.now.items c.push.new.self.items c.push_step.new.lines.items (step_lines c.in-Some.step.now c.in-Some.step.next) c.in_ok-counter_line.field-0 _
    (c.in_ok-push.ensures.items ∙ ap (λ (ls : List Line). ls ++ c.in_ok-counter_line.field-0 ∷ []) c.loop-place.invariant.same) c.in_ok-counter_line.ensures
    (c.in_ok-push_step.ensures ∙ (λ i. c.push.new.self.items ++ step_lines (c.as_slice.ensures i) (c.as_slice-in-Some.ensures i))))
