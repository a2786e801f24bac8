-- the choices made and those to come are all
use Rattle.std.proofs.Common.{◌≡◌, ◌++◌, drop}
use Rattle.lv_search_parts.specs.Slots.{put_in}
use Rattle.lv_search_parts.proofs.part.put_in.Given as goal

abbrev pub invariant-loop-slot : goal.invariant-loop-slot
invariant-loop-slot l = l.new.items ++ put_in (drop l.slot l.marks) l.rest (drop l.slot l.outer) ≡ put_in l.marks l.inner l.outer
