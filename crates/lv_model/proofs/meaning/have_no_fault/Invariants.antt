use Rattle.std.proofs.Common.{◌≡◌, drop}
use Rattle.lv_model.specs.Meaning.{parts_are_nominal}
use Rattle.lv_model.proofs.meaning.have_no_fault.Given as goal

-- the parts that are left decide
abbrev pub invariant-loop-i : goal.invariant-loop-i
invariant-loop-i l = parts_are_nominal l.types (drop l.i l.parts) (drop l.i l.moves) ≡ parts_are_nominal l.types l.parts l.moves
