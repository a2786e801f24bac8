-- the slots gone through keep the first member
use Rattle.std.proofs.Common.{List}
use Rattle.lv_base.specs.declared.search.Pair.{Pair}
use Rattle.lv_search_guide.specs.First.{AreLoose, DropsTells}
use Rattle.lv_search_guide.proofs.behind.drop_once.Given as goal

abbrev pub invariant-loop-slot : goal.invariant-loop-slot
invariant-loop-slot l = (conflicts : List (List Pair)) → AreLoose conflicts l.fn.masks l.loose → DropsTells l.slots conflicts l.fn.masks l.masks l.changed
