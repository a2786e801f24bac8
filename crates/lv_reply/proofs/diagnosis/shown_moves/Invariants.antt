use Rattle.std.proofs.Common.{◌≡◌, ◌++◌, drop}
use Rattle.lv_reply.specs.Diagnosis.{shown_moves}
use Rattle.lv_reply.proofs.diagnosis.shown_moves.Given as goal

-- what is shown, with what the moves that are left show, is all
abbrev pub invariant-loop-i : goal.invariant-loop-i
invariant-loop-i l = l.out.items ++ shown_moves l.types (drop l.i l.parts) (drop l.i l.choices) ≡ shown_moves l.types l.parts l.choices
