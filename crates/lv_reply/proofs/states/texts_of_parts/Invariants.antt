use Rattle.std.proofs.Common.{◌≡◌, ◌++◌, drop}
use Rattle.lv_reply.specs.States.{part_texts}
use Rattle.lv_reply.proofs.states.texts_of_parts.Given as goal

-- what was added, with the texts of the parts that are left, is all
abbrev pub invariant-loop-i : goal.invariant-loop-i
invariant-loop-i l = l.out.items ++ part_texts l.types (drop l.i l.parts) (drop l.i l.modes) ≡ part_texts l.types l.parts l.modes
