-- what was taken so far is numbered
use Rattle.std.proofs.Common.{◌≡◌, take}
use Rattle.lv_system.specs.Numbering.{AreNumbered}
use Rattle.lv_system.proofs.numbered.number_all.Given as goal

abbrev pub invariant-loop-clause : goal.invariant-loop-clause
invariant-loop-clause l =
    record {
      over : l.set.bools ≡ l.bools;
      numbered : AreNumbered (take l.clause-index l.clauses) l.set.slots l.ids.items;
    }
