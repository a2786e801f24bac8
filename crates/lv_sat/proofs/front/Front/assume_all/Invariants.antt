-- so many assumptions stand
use Rattle.std.proofs.Common.{◌≡◌, [], take}
use Rattle.lv_sat.specs.Front.{assumed, IsStanding}
use Rattle.lv_sat.proofs.front.Front.assume_all.Given as goal

abbrev pub invariant-loop-at : goal.invariant-loop-at
invariant-loop-at l =
    record {
      standing : IsStanding l.set l.self.levels.items l.self.search.trail.marks.items l.self.search.trail.entries.items;
      taken : assumed l.self.levels.items ≡ take l.at l.assumptions;
      log : l.log ≡ [];
    }
