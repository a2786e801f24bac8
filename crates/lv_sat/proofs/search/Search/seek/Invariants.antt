-- a trail from the assumptions on and a valid log; each turn leaves fewer trails above
use Rattle.lv_sat.specs.Search.{IsSearch}
use Rattle.lv_sat.specs.Measure.{trails_left}
use Rattle.lv_sat.proofs.search.Search.seek.Given as goal

abbrev pub invariant-conflicts : goal.invariant-conflicts
invariant-conflicts l = IsSearch l.set l.fn.self.trail.entries.items l.log l.self.trail.marks.items l.self.trail.entries.items

abbrev pub decreases-conflicts : goal.decreases-conflicts
decreases-conflicts l = trails_left l.set.bools l.pace.left l.self.trail.entries.items
