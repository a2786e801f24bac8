-- the pairs made, and those of the choices left, are the pairs of all
use Rattle.std.proofs.Common.{◌≡◌, ◌++◌, drop}
use Rattle.lv_boxes.specs.Laws.{pairs_from, pairs_of}
use Rattle.lv_boxes.proofs.parts.choices_as_conflict.Given as goal

abbrev pub invariant-loop-slot : goal.invariant-loop-slot
invariant-loop-slot l = l.pairs.items ++ pairs_from l.slot (drop l.slot l.choices) ≡ pairs_of l.choices
