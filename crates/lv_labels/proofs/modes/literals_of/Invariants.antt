-- what was added and the literals of the variables that are left are all
use Rattle.std.proofs.Common.{◌≡◌, ◌++◌, drop, IsTrue}
use Rattle.lv_labels.specs.Literals.{literals_of}
use Rattle.lv_labels.specs.Modes.{are_values}
use Rattle.lv_labels.proofs.modes.literals_of.Given as goal

abbrev pub invariant-loop-i : goal.invariant-loop-i
invariant-loop-i l = record {
  rest : l.out.items ++ literals_of l.bools (drop l.i l.variables) (drop l.i l.values) ≡ literals_of l.bools l.variables l.values;
  are : IsTrue (are_values l.bools (drop l.i l.variables) (drop l.i l.values));
}
