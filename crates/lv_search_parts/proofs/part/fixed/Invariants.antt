-- the masks made and those to come are all
use Rattle.std.proofs.Common.{◌≡◌, ◌++◌, drop}
use Rattle.lv_search_parts.specs.Parts.{fixed}
use Rattle.lv_search_parts.proofs.part.fixed.Given as goal

abbrev pub invariant-loop-slot : goal.invariant-loop-slot
invariant-loop-slot l = l.new.items ++ fixed (drop l.slot l.marks) l.rest (drop l.slot l.masks) ≡ fixed l.marks l.choices l.masks
