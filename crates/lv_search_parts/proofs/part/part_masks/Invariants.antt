-- the masks taken over and those to come are the part
use Rattle.std.proofs.Common.{◌≡◌, ◌++◌, drop}
use Rattle.lv_search_parts.specs.Slots.{only}
use Rattle.lv_search_parts.proofs.part.part_masks.Given as goal

abbrev pub invariant-loop-slot : goal.invariant-loop-slot
invariant-loop-slot l = l.part.items ++ only (drop l.slot l.marks) (drop l.slot l.masks) ≡ only l.marks l.masks
