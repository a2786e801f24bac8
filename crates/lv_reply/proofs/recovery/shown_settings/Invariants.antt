use Rattle.std.proofs.Common.{◌≡◌, ◌++◌, drop}
use Rattle.lv_reply.specs.Recovery.{shown_settings}
use Rattle.lv_reply.proofs.recovery.shown_settings.Given as goal

-- what is shown, with what the controls that are left show, is all
abbrev pub invariant-loop-i : goal.invariant-loop-i
invariant-loop-i l = l.out.items ++ shown_settings l.model (drop l.i l.controls) (drop l.i l.values) ≡ shown_settings l.model l.controls l.values
