-- the choices made and those to come are all
use Rattle.std.proofs.Common.{◌≡◌, ◌++◌, drop}
use Rattle.lv_guide.specs.Beside.{mixed}
use Rattle.lv_guide.proofs.beside.mixed.Given as goal

abbrev pub invariant-loop-slot : goal.invariant-loop-slot
invariant-loop-slot l = l.choices.items ++ mixed (drop l.slot l.marks) (drop l.slot l.inner) (drop l.slot l.outer) ≡ mixed l.marks l.inner l.outer
