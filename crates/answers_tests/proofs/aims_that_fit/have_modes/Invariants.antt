-- what is left decides
use Rattle.std.proofs.Common.{◌≡◌, drop}
use Rattle.lv_meaning.specs.Ranges.{modes_fit}
use Rattle.answers_tests.proofs.aims_that_fit.have_modes.Given as goal

abbrev pub invariant-loop-i : goal.invariant-loop-i
invariant-loop-i l = modes_fit l.ranges (drop l.i l.parts) (drop l.i l.modes) ≡ modes_fit l.ranges l.parts l.modes
