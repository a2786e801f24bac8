-- the parts made, and the parts of what is left by the pairs that are left, are the parts of the whole
use Rattle.std.proofs.Common.{◌≡◌, ◌++◌, drop}
use Rattle.lv_boxes.specs.Parts.{parts_of}
use Rattle.lv_boxes.proofs.parts.split.Given as goal

abbrev pub invariant-loop-pair : goal.invariant-loop-pair
invariant-loop-pair l = l.zones.items ++ parts_of l.rest (drop l.pair-index l.pairs) ≡ parts_of l.zone l.conflict
