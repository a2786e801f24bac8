-- whether all go is whether those that are left do
use Rattle.std.proofs.Common.{◌≡◌, drop}
use Rattle.lv_model.specs.Meaning.{parts_step}
use Rattle.lv_model.proofs.meaning.parts_go.Given as goal

abbrev pub invariant-loop-i : goal.invariant-loop-i
invariant-loop-i l = parts_step l.types l.a l.b (drop l.i l.parts) (drop l.i l.moves) ≡ parts_step l.types l.a l.b l.parts l.moves
