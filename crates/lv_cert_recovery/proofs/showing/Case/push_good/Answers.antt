-- there is a step, and its lines show it
use Rattle.std.proofs.Common.{◌++◌, ◌∙◌, subst}
use Rattle.std.proofs.lemmas.Result.{IfOk-weaker}
use Rattle.lv_cert_recovery.specs.Showing.{step_lines}
use Rattle.lv_cert_recovery.specs.Telling.{TellsReached}
use Rattle.lv_cert_recovery.proofs.BlockLemmas.{joined}
use Rattle.lv_cert_recovery.proofs.GivingLemmas.{values_have, reached_step, good_on}
use Rattle.lv_cert_recovery.proofs.showing.Case.push_good.Goals as goal

pub reach-requires-clause-have : goal.reach-requires-clause-have
reach-requires-clause-have c = values_have c.args.self.now.asking.now.plant c.args.self.now.asking.now.aim c.args.self.now.pairs.now c.requires.given.values

pub step_told-step-requires : goal.step_told-step-requires
step_told-step-requires c =
    reached_step c.args.self.now.asking.now.plant c.args.self.now.asking.now.aim c.aim-aim.ensures.well_formed c.aim-aim.ensures.asked c.args.self.now.pairs.now c.requires.given c.args.self.now.place c.args.self.now.state.now c.requires.state
    c.in_ok-reach.field-0 c.in_ok-reach.ensures.told

pub returns-clause-told : goal.returns-clause-told
returns-clause-told c =
    IfOk-weaker c.push_step.result _ _
    (λ x is.
    good_on c.args.self.now.asking.now.plant c.args.self.now.asking.now.aim c.aim-aim.ensures.well_formed c.aim-aim.ensures.asked c.args.self.now.pairs.now c.requires.given c.args.self.now.place c.args.self.now.state.now c.requires.state
    c.step_told-step.result
    (subst (TellsReached c.args.self.now.asking.now.plant c.args.self.now.asking.now.aim c.args.self.now.state.now.state c.args.self.now.pairs.now) c.step_told-step.ensures c.in_ok-reach.ensures.told) c.args.lines.now.items c.push_step.new.lines.items
    (joined c.args.lines.now.items c.push.new.self.items c.push_step.new.lines.items (step_lines c.step_told-step.result.now c.step_told-step.result.next) c.in_ok-good_line.field-0 _ c.in_ok-push.ensures.items
    c.in_ok-good_line.ensures (is ∙ (λ i. c.push.new.self.items ++ step_lines (c.as_slice.ensures i) (c.as_slice-2.ensures i)))))
    c.push_step.ensures
