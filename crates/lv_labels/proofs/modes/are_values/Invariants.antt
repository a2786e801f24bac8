-- what is left decides
use Rattle.std.proofs.Common.{◌≡◌, drop}
use Rattle.lv_labels.specs.Modes.{are_values}
use Rattle.lv_labels.proofs.modes.are_values.Given as goal

abbrev pub invariant-loop-i : goal.invariant-loop-i
invariant-loop-i l = are_values l.bools (drop l.i l.variables) (drop l.i l.values) ≡ are_values l.bools l.variables l.values
