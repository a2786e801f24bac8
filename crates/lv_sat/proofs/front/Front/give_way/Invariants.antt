-- what is left can be kept
use Rattle.lv_sat.specs.Front.{IsKept}
use Rattle.lv_sat.proofs.front.Front.give_way.Given as goal

abbrev pub invariant-levels : goal.invariant-levels
invariant-levels l = IsKept l.set l.self.levels.items l.self.search.trail.marks.items l.self.search.trail.entries.items
