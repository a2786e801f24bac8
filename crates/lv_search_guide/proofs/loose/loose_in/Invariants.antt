-- the conflicts gone through have no choice left
use Rattle.std.proofs.Common.{take}
use Rattle.lv_search_guide.specs.First.{AreLoose}
use Rattle.lv_search_guide.proofs.loose.loose_in.Given as goal

abbrev pub invariant-loop-conflict : goal.invariant-loop-conflict
invariant-loop-conflict l = AreLoose (take l.conflict-index l.conflicts) l.masks l.loose
