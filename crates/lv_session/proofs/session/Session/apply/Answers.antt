-- the controls are commanded to a command set, and no query is current
use Rattle.std.proofs.Common.{rules, ◌≡◌, Some, sym, ap, ◌∙◌}
use Rattle.std.specs.Option.{option_copied}
use Rattle.lv_session.specs.Session.{RunningSession}
use Rattle.lv_session_state.specs.Applying.{applied}
use Rattle.lv_session.specs.Applying.{recovery_at}
use Rattle.lv_session.proofs.Applied.{session_applied}
use Rattle.lv_session.proofs.session.Session.apply.Goals as goal

pub invariant_of-self : goal.invariant_of-self
invariant_of-self c =
    let s : RunningSession = record { plant = c.self.inside.compiled.now; state = c.self.inside.state.value; is_out_of_memory = c.self.inside.is_out_of_memory } in
    let found : recovery_at s ≡ Some c.in-Some.numbers.now = ap recovery_at c.self.view_is ∙ sym c.recovery.ensures ∙ ap option_copied c.in-Some.is in
    let next : c.command_all.new.self ≡ applied c.self.inside.state.value c.in-Some.numbers.now = search rules in
    session_applied c.self.inside.compiled.now c.self.inside.workings.value c.self.inside.state.value c.command_all.new.self c.self.inside.is_out_of_memory
    c.in-Some.numbers.now c.self.invariant found next
