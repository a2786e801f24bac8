-- the recovery, and then each state
use Rattle.std.proofs.Common.{◌∷◌, ◌++◌, ◌∙◌, [], ap}
use Rattle.std.proofs.lemmas.Result.{IfOk-weaker}
use Rattle.lv_cert.specs.declared.line.Line.{Line}
use Rattle.lv_cert_recovery.proofs.GivingLemmas.{recovery_on}
use Rattle.lv_cert_recovery.proofs.showing.push_recovery.Goals as goal

pub returns-clause-told : goal.returns-clause-told
returns-clause-told c =
    IfOk-weaker c.push_states.result _ _
    (λ x on.
    recovery_on c.args.asking.now.plant c.args.asking.now.aim c.aim-aim.ensures.well_formed c.aim-aim.ensures.asked c.args.pairs.now c.requires.given c.args.lines.now.items c.push.new.self.items
    c.push_states.new.lines.items (c.in_ok-push.ensures.items ∙ ap (λ (l : Line). c.args.lines.now.items ++ l ∷ []) c.in_ok-recovery_line.ensures) on)
    c.push_states.ensures.told
