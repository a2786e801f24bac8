-- the first of those that are left, and the others
use Rattle.std.proofs.Common.{◌∙◌, ◌+◌, ◌&&◌, Bool, drop, sym, ap, arith}
use Rattle.lv_meaning.specs.Facts.{meets, commanded}
use Rattle.lv_certcheck.proofs.ShownLemmas.{command_met}
use Rattle.lv_certcheck.proofs.shown.meets_commands.Goals as goal

pub loop-k-preserved : goal.loop-k-preserved
loop-k-preserved c =
    sym
    (command_met c.args.a.now c.args.controls.now c.args.values.now c.loop-k.k (c.loop-k.k + 1) (record { 0 = 0 }) (omega arith) c.loop-k-test.true
    ∙ ap (λ (b : Bool). b && meets c.args.a.now (commanded (drop (c.loop-k.k + 1) c.args.controls.now) (drop (c.loop-k.k + 1) c.args.values.now))) (sym c.has_command.ensures ∙ c.if-not-has_command.false))
    ∙ c.loop-k.invariant

pub returns-then-not-has_command : goal.returns-then-not-has_command
returns-then-not-has_command c =
    sym
    (command_met c.args.a.now c.args.controls.now c.args.values.now c.loop-k.k (c.loop-k.k + 1) (record { 0 = 0 }) (omega arith) c.loop-k-test.true
    ∙ ap (λ (b : Bool). b && meets c.args.a.now (commanded (drop (c.loop-k.k + 1) c.args.controls.now) (drop (c.loop-k.k + 1) c.args.values.now))) (sym c.has_command.ensures ∙ c.if-not-has_command.true))
    ∙ c.loop-k.invariant
